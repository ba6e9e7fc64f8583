use Rattle.std.proofs.Common.{rules}
use Rattle.unit_text.proofs.marks.MarkedView.is_nearer_end.Goals as goal

pub returns-then-left-le-SPACING-clause-farther : goal.returns-then-left-le-SPACING-clause-farther
returns-then-left-le-SPACING-clause-farther c = search rules
