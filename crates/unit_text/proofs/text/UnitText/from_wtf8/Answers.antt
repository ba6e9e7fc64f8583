use Rattle.std.proofs.Common.{rules}
use Rattle.unit_text.proofs.text.UnitText.from_wtf8.Goals as goal

pub returns : goal.returns
returns c = search rules
