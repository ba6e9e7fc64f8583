use Rattle.wtf8.proofs.lemmas.codec.Readings.{IsWellFormed-equal_bytes}
use Rattle.wtf8.proofs.strings.view.Wtf8.skip_bytes.Goals as goal

pub returns-clause-points : goal.returns-clause-points
returns-clause-points c h = c.from_well_formed.ensures.points (IsWellFormed-equal_bytes h c.split_at.ensures.back)
