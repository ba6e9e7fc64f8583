use Rattle.std.proofs.Common.{rules}
use Rattle.unit_text.proofs.comparisons.UnitTextPartialEq.eq.Goals as goal

pub returns-clause-units : goal.returns-clause-units
returns-clause-units c = search rules

pub returns-clause-value : goal.returns-clause-value
returns-clause-value c = search rules
