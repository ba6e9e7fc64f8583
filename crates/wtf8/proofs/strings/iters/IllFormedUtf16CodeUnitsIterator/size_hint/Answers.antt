use Rattle.wtf8.proofs.Common.{rules}
use Rattle.wtf8.proofs.strings.iters.IllFormedUtf16CodeUnitsIterator.size_hint.Goals as goal

pub returns-clause-value : goal.returns-clause-value
returns-clause-value c = search rules
