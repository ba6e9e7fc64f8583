use Rattle.wtf8.proofs.Common.{refl}
use Rattle.wtf8.proofs.lemmas.codec.Readings.{IsWellFormed-nil}
use Rattle.wtf8.proofs.lemmas.strings.ExtendedForms.{scalar-equal_bytes, scalar_all}
use Rattle.wtf8.proofs.buffers.buf.Wtf8Buf.with_capacity.Goals as goal

pub from_well_formed-requires-clause-scalar : goal.from_well_formed-requires-clause-scalar
from_well_formed-requires-clause-scalar g c h =
    scalar_all h.points _ (scalar-equal_bytes (IsWellFormed-nil c.in_ok-bytes.ensures.items) h refl tt)

pub returns-clause-units : goal.returns-clause-units
returns-clause-units g c = c.from_well_formed.ensures.units (IsWellFormed-nil c.in_ok-bytes.ensures.items)
