use Rattle.std.proofs.Common.{rules}
use Rattle.unit_text.proofs.indexed.IndexedBuf.clear.Goals as goal

pub returns-clause-capacity : goal.returns-clause-capacity
returns-clause-capacity c = search rules

pub invariant_of-self : goal.invariant_of-self
invariant_of-self c = search rules
