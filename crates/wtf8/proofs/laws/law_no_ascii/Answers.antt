use Rattle.wtf8.proofs.lemmas.strings.StringLaws.{no_ascii_unit}
use Rattle.wtf8.proofs.laws.law_no_ascii.Goals as goal

pub returns : goal.returns
returns c = no_ascii_unit c.args.view c.args.byte c.requires
