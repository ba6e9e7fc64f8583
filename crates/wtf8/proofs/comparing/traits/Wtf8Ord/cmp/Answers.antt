use Rattle.wtf8.proofs.Common.{◌∙◌, rules, arith}
use Rattle.wtf8.proofs.lemmas.comparing.Order.{cmp_points, points_order}
use Rattle.wtf8.proofs.comparing.traits.Wtf8Ord.cmp.Goals as goal

pub returns-clause-bytes : goal.returns-clause-bytes
returns-clause-bytes c = search rules

pub returns-clause-points : goal.returns-clause-points
returns-clause-points c = returns-clause-bytes c ∙ cmp_points _ _ c.args.self.now.well_formed.encoded c.args.other.now.well_formed.encoded

pub returns-clause-order : goal.returns-clause-order
returns-clause-order c = grind (arith, points_order)
