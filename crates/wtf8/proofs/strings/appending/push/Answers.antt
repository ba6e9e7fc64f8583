use Rattle.wtf8.proofs.Common.{rules}
use Rattle.wtf8.proofs.strings.appending.push.Goals as goal

pub returns-then-surrogate-clause-scalar : goal.returns-then-surrogate-clause-scalar
returns-then-surrogate-clause-scalar g c = search rules

pub returns-else-surrogate-clause-scalar : goal.returns-else-surrogate-clause-scalar
returns-else-surrogate-clause-scalar g c = search rules
