use Rattle.wtf8.proofs.Common.{ap, arith, length, nat_tests, units}
use Rattle.wtf8.proofs.lemmas.codec.Readings.{points-nil, lists_have_lengths}
use Rattle.wtf8.proofs.strings.view.Wtf8.is_empty.Goals as goal

pub returns-clause-units : goal.returns-clause-units
returns-clause-units c =
    let h = c.args.self.now.well_formed in
    let bounds = lists_have_lengths h.points in (
      λ empty. ap units (points-nil h (grind (arith, nat_tests))),
      λ none. grind (arith, nat_tests, bounds.units_most, ap length none, ap length h.encoded),
    )
