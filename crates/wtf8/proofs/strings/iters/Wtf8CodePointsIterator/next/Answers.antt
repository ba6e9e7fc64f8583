use Rattle.wtf8.proofs.Common.{◌∙◌, ◌∷◌, arith, ap, sym, refl, length, length-drop, number}
use Rattle.wtf8.proofs.lemmas.codec.Encoding.{BeginsWithPoint-equal_bytes}
use Rattle.wtf8.proofs.lemmas.codec.Readings.{points-nil, first_of, Taken-from_first, same_points}
use Rattle.wtf8.proofs.strings.iters.Wtf8CodePointsIterator.next.Goals as goal

pub returns-then-self-clause-steps : goal.returns-then-self-clause-steps
returns-then-self-clause-steps c =
    let s = c.self.inside in
    let none = sym c.self.view_is ∙ points-nil s.well_formed (omega (arith, length-drop s.position s.bytes.now, c.if-self.true)) in
    (none, none)

pub read-after-requires-clause-front : goal.read-after-requires-clause-front
read-after-requires-clause-front c =
    let s = c.self.inside in
    rw c.split_at.ensures.back (first_of s.well_formed (omega (arith, length-drop s.position s.bytes.now, s.within, c.if-self.false))).0

pub invariant_of-self-inside : goal.invariant_of-self-inside
invariant_of-self-inside c =
    let s = c.self.inside in
    let t = Taken-from_first s.bytes.now s.position s.well_formed (number c.read-after.result.0) c.read-after.result.1
    (omega (arith, s.within, c.if-self.false)) (λ b. c.read-after.ensures (BeginsWithPoint-equal_bytes b c.split_at.ensures.back)) in
    (t.within, (t.rest, tt))

pub returns-clause-steps : goal.returns-clause-steps
returns-clause-steps c =
    let s = c.self.inside in
    let t = Taken-from_first s.bytes.now s.position s.well_formed (number c.read-after.result.0) c.read-after.result.1
    (omega (arith, s.within, c.if-self.false)) (λ b. c.read-after.ensures (BeginsWithPoint-equal_bytes b c.split_at.ensures.back)) in
    sym c.self.view_is ∙ (t.joined ∙ ap (λ r. number c.read-after.result.0 ∷ r) (same_points t.rest c.self-1.given.1.0 refl))

pub returns-clause-goes : goal.returns-clause-goes
returns-clause-goes c = record {
  on = λ _. (tt, tt, omega (arith, ap length (returns-clause-steps c)));
  keeps = tt;
  rests = λ _. tt;
}
