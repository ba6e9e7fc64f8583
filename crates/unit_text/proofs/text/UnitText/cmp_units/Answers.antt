use Rattle.std.proofs.Common.{rules}
use Rattle.unit_text.proofs.text.UnitText.cmp_units.Goals as goal

pub returns-clause-value : goal.returns-clause-value
returns-clause-value c = search rules

pub returns-clause-order : goal.returns-clause-order
returns-clause-order c = search rules

pub returns-clause-less : goal.returns-clause-less
returns-clause-less c = search rules

pub returns-clause-greater : goal.returns-clause-greater
returns-clause-greater c = search rules

pub returns-clause-at_most : goal.returns-clause-at_most
returns-clause-at_most c = search rules

pub returns-clause-at_least : goal.returns-clause-at_least
returns-clause-at_least c = search rules
