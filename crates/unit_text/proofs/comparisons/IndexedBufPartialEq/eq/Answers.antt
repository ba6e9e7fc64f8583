use Rattle.std.proofs.Common.{rules}
use Rattle.unit_text.proofs.comparisons.IndexedBufPartialEq.eq.Goals as goal

pub returns-clause-bytes : goal.returns-clause-bytes
returns-clause-bytes c = search rules

pub returns-clause-points : goal.returns-clause-points
returns-clause-points c = search rules

pub returns-clause-units : goal.returns-clause-units
returns-clause-units c = search rules
