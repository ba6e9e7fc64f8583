use Rattle.std.proofs.Common.{rules}
use Rattle.unit_text.proofs.text.UnitText.unit_before.Goals as goal

pub returns-clause-before : goal.returns-clause-before
returns-clause-before c = search rules
