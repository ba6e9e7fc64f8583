use Rattle.std.proofs.Common.{rules}
use Rattle.unit_text.proofs.text.UnitText.unit_at.Goals as goal

pub returns-clause-unit : goal.returns-clause-unit
returns-clause-unit c = search rules
