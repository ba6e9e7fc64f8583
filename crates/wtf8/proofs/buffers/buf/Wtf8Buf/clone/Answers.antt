use Rattle.wtf8.proofs.Common.{ap, ◌∙◌, UnitString}
use Rattle.wtf8.proofs.lemmas.codec.Readings.{IsWellFormed-equal_bytes}
use Rattle.wtf8.proofs.lemmas.strings.ExtendedForms.{scalar_to-equal_bytes}
use Rattle.wtf8.proofs.buffers.buf.Wtf8Buf.clone.Goals as goal

pub from_well_formed-requires-clause-scalar : goal.from_well_formed-requires-clause-scalar
from_well_formed-requires-clause-scalar g c h = scalar_to-equal_bytes c.self.inside.utf8_prefix.len c.self.inside.well_formed h
    (c.in_ok-bytes.ensures.items ∙ c.as_slice.ensures.value) c.self.inside.scalar_prefix

pub returns-clause-units : goal.returns-clause-units
returns-clause-units g c = c.from_well_formed.ensures.units (IsWellFormed-equal_bytes c.self.inside.well_formed
    (c.in_ok-bytes.ensures.items ∙ c.as_slice.ensures.value)) ∙ ap (λ (t : UnitString). t.units) c.self.view_is
