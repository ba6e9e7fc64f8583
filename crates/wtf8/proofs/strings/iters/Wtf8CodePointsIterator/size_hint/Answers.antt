use Rattle.wtf8.proofs.Common.{arith, ap, length, length-drop, ◌∙◌, rules}
use Rattle.wtf8.proofs.lemmas.codec.Readings.{lists_have_lengths}
use Rattle.wtf8.proofs.strings.iters.Wtf8CodePointsIterator.size_hint.Goals as goal

pub returns : goal.returns
returns c =
    let s = c.self.inside.well_formed in
    let b = lists_have_lengths s.points in
    let all = ap length s.encoded ∙ length-drop c.self.inside.position c.self.inside.bytes.now in
    let own = ap length c.self.view_is in
    record {
      lower = λ _. omega (arith, c.div_ceil.ensures);
      upper = (tt, omega arith);
      value = search rules;
      holds = record { lower = omega (arith, c.div_ceil.ensures); upper = omega arith };
    }
