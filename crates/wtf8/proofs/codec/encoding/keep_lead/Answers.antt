use Rattle.wtf8.proofs.Common.{arith, common_steps}
use Rattle.wtf8.proofs.codec.encoding.keep_lead.Goals as goal

pub returns : goal.returns
returns g c = grind (arith, common_steps)
