use Rattle.std.proofs.Common.{rules}
use Rattle.unit_text.proofs.indexed.IndexedBuf.new.Goals as goal

pub returns-clause-units : goal.returns-clause-units
returns-clause-units c = search rules
