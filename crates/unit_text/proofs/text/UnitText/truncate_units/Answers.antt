use Rattle.std.proofs.Common.{rules}
use Rattle.unit_text.proofs.text.UnitText.truncate_units.Goals as goal

pub returns : goal.returns
returns c = search rules
