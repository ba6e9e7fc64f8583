use Rattle.wtf8.proofs.Common.{arith, take-append-add, is_ok}
use Rattle.wtf8.proofs.vec.push_front.Goals as goal

pub returns-clause-items : goal.returns-clause-items
returns-clause-items g c = grind (arith, is_ok, take-append-add)
