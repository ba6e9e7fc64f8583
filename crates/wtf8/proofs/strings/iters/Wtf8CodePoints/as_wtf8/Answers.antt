use Rattle.wtf8.proofs.Common.{◌∙◌, ap, sym, bytes}
use Rattle.wtf8.proofs.lemmas.codec.Readings.{IsWellFormed-equal_bytes}
use Rattle.wtf8.proofs.strings.iters.Wtf8CodePoints.as_wtf8.Goals as goal

pub from_well_formed-requires : goal.from_well_formed-requires
from_well_formed-requires c = IsWellFormed-equal_bytes c.self.inside.well_formed c.split_at.ensures.back

pub returns-clause-points : goal.returns-clause-points
returns-clause-points c =
    c.from_well_formed.ensures.points (IsWellFormed-equal_bytes c.self.inside.well_formed c.split_at.ensures.back) ∙ c.self.view_is

pub returns-clause-bytes : goal.returns-clause-bytes
returns-clause-bytes c =
    c.from_well_formed.ensures.bytes ∙ (c.split_at.ensures.back ∙ (sym c.self.inside.well_formed.encoded ∙ ap bytes c.self.view_is))
