use Rattle.wtf8.proofs.Common.{rules}
use Rattle.wtf8.proofs.formatting.display_text.Wtf8BufDisplay.fmt.Goals as goal

pub returns : goal.returns
returns g c = search rules
