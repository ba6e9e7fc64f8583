use Rattle.std.proofs.Common.{rules}
use Rattle.unit_text.proofs.marks.MarkedView.near_mark.Goals as goal

pub returns-then-is_nearer_end-clause-close : goal.returns-then-is_nearer_end-clause-close
returns-then-is_nearer_end-clause-close c = search rules
