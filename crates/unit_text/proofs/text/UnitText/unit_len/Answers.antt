use Rattle.std.proofs.Common.{rules}
use Rattle.unit_text.proofs.text.UnitText.unit_len.Goals as goal

pub returns : goal.returns
returns c = search rules
