use Rattle.wtf8.proofs.Common.{◌≡◌, ap, ◌∙◌, arith, take_all, UnitString, units}
use Rattle.wtf8.proofs.lemmas.codec.Readings.{IsWellFormed-equal_bytes, same_points}
use Rattle.wtf8.proofs.buffers.buf.Wtf8Buf.reserve.Goals.{After-truncate}
use Rattle.wtf8.proofs.buffers.buf.Wtf8Buf.reserve.Goals as goal

pub invariant_of-self-inside : goal.invariant_of-self-inside
invariant_of-self-inside g c =
    (IsWellFormed-equal_bytes c.self.inside.well_formed c.reserve.ensures.items, (c.self.inside.scalar_prefix, tt))

pub returns-in_err-reserve-clause-units : goal.returns-in_err-reserve-clause-units
returns-in_err-reserve-clause-units g c = ap units (same_points c.in_err-reserve.self-1-own.given.0 c.self.inside.well_formed
    c.reserve.ensures.items) ∙ ap (λ (t : UnitString). t.units) c.self.view_is

-- the truncation removes nothing
same_bytes : (g : _) (c : After-truncate g) → c.truncate.new.self.items ≡ c.self.inside.bytes.items
same_bytes g c = grind (arith, take_all)

pub invariant_of-self-inside-2 : goal.invariant_of-self-inside-2
invariant_of-self-inside-2 g c = (
  IsWellFormed-equal_bytes c.self.inside.well_formed (same_bytes g (goal.at.invariant_of-self-inside-2 g c).After-truncate),
  (c.self.inside.scalar_prefix, tt),
)

pub returns-clause-units : goal.returns-clause-units
returns-clause-units g c = ap units (same_points c.self-2-1.given.0 c.self.inside.well_formed
    (same_bytes g (goal.at.returns-clause-units g c).After-truncate)) ∙ ap (λ (t : UnitString). t.units) c.self.view_is
