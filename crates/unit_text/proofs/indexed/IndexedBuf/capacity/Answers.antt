use Rattle.std.proofs.Common.{rules}
use Rattle.unit_text.proofs.indexed.IndexedBuf.capacity.Goals as goal

pub returns-clause-value : goal.returns-clause-value
returns-clause-value c = search rules
