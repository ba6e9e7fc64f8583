use Rattle.wtf8.proofs.Common.{arith, rules, common_steps}
use Rattle.wtf8.proofs.strings.appending.complete_pair.Goals as goal

pub returns : goal.returns
returns g c = record { ok = grind (arith, common_steps); err = search rules; room = search rules; capacity = search rules }
