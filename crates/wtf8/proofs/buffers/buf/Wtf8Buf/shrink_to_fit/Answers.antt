use Rattle.wtf8.proofs.Common.{ap, ◌∙◌, UnitString, units}
use Rattle.wtf8.proofs.lemmas.codec.Readings.{IsWellFormed-equal_bytes, same_points}
use Rattle.wtf8.proofs.buffers.buf.Wtf8Buf.shrink_to_fit.Goals as goal

pub invariant_of-self-inside : goal.invariant_of-self-inside
invariant_of-self-inside g c =
    (IsWellFormed-equal_bytes c.self.inside.well_formed c.shrink_to_fit.ensures.items, (c.self.inside.scalar_prefix, tt))

pub returns-clause-units : goal.returns-clause-units
returns-clause-units g c = ap units (same_points c.self-1.given.0 c.self.inside.well_formed c.shrink_to_fit.ensures.items)
    ∙ ap (λ (t : UnitString). t.units) c.self.view_is
