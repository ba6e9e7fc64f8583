use Rattle.std.proofs.Common.{rules}
use Rattle.unit_text.proofs.comparisons.IndexedBufOrd.cmp.Goals as goal

pub returns-clause-bytes : goal.returns-clause-bytes
returns-clause-bytes c = search rules

pub returns-clause-points : goal.returns-clause-points
returns-clause-points c = search rules

pub returns-clause-order : goal.returns-clause-order
returns-clause-order c = search rules
