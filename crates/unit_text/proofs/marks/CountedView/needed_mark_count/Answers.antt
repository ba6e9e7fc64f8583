use Rattle.std.proofs.Common.{rules}
use Rattle.unit_text.proofs.marks.CountedView.needed_mark_count.Goals as goal

pub returns-then-is_ascii-clause-not_ascii : goal.returns-then-is_ascii-clause-not_ascii
returns-then-is_ascii-clause-not_ascii c = search rules

pub returns-clause-all : goal.returns-clause-all
returns-clause-all c = search rules
