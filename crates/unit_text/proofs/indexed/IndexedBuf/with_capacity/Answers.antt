use Rattle.std.proofs.Common.{rules}
use Rattle.unit_text.proofs.indexed.IndexedBuf.with_capacity.Goals as goal

pub returns-clause-capacity : goal.returns-clause-capacity
returns-clause-capacity c = search rules
