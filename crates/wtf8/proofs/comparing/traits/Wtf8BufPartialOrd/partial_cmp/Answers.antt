use Rattle.wtf8.proofs.Common.{rules}
use Rattle.wtf8.proofs.comparing.traits.Wtf8BufPartialOrd.partial_cmp.Goals as goal

pub returns : goal.returns
returns g c = search rules
