use Rattle.wtf8.proofs.Common.{ap, units, arith, length, length-append, ◌∷◌}
use Rattle.wtf8.proofs.lemmas.codec.Readings.{IsWellFormed-nil, points-nil}
use Rattle.wtf8.proofs.buffers.buf.Wtf8Buf.clear.Goals as goal

pub invariant_of-self-inside : goal.invariant_of-self-inside
invariant_of-self-inside g c =
    (IsWellFormed-nil c.clear.ensures.items, ((λ f p b e _. absurd (omega (arith, ap length e, length-append f (p ∷ b)))), tt))

pub returns-clause-units : goal.returns-clause-units
returns-clause-units g c = ap units (points-nil c.self-1.given.0 (ap length c.clear.ensures.items))
