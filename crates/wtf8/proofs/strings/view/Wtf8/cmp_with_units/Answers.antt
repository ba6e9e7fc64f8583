use Rattle.wtf8.proofs.lemmas.comparing.Order.{order_of_result}
use Rattle.wtf8.proofs.strings.view.Wtf8.cmp_with_units.Goals as goal

pub returns-then-len-clause-order : goal.returns-then-len-clause-order
returns-then-len-clause-order c = order_of_result _ _ _ c.cmp_by_parts.ensures

pub returns-clause-order : goal.returns-clause-order
returns-clause-order c = order_of_result _ _ _ c.cmp_by_parts-2.ensures
