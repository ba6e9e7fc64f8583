use Rattle.std.proofs.Common.{rules}
use Rattle.unit_text.proofs.text.UnitText.position_at.Goals as goal

pub returns-clause-whole : goal.returns-clause-whole
returns-clause-whole c = search rules
