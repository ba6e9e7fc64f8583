use Rattle.wtf8.proofs.Common.{◌∙◌, ◌∷◌, arith, ap, sym, nat_tests, number}
use Rattle.wtf8.proofs.lemmas.codec.Readings.{points-nil, first_of, Taken-from_first}
use Rattle.wtf8.proofs.strings.view.Wtf8.split_first.Goals as goal

pub returns-then-is_empty-clause-none : goal.returns-then-is_empty-clause-none
returns-then-is_empty-clause-none c = points-nil c.args.self.well_formed (grind (arith, nat_tests))

pub read-width-requires-clause-front : goal.read-width-requires-clause-front
read-width-requires-clause-front c = (first_of c.args.self.well_formed (grind (arith, nat_tests))).0

pub skip_bytes-requires : goal.skip_bytes-requires
skip_bytes-requires c =
    let t = Taken-from_first c.args.self.bytes.now 0 c.args.self.well_formed _ _ (grind (arith, nat_tests)) c.read-width.ensures in
    record { within = t.within; well_formed = t.rest }

pub returns-clause-some : goal.returns-clause-some
returns-clause-some c =
    let t = Taken-from_first c.args.self.bytes.now 0 c.args.self.well_formed (number c.read-width.result.0) c.read-width.result.1
    (grind (arith, nat_tests)) c.read-width.ensures in
    t.joined ∙ ap (λ r. number c.read-width.result.0 ∷ r) (sym (c.skip_bytes.ensures.points t.rest))
