use Rattle.std.proofs.Common.{rules}
use Rattle.unit_text.proofs.marks.truncate_kept.Goals as goal

pub returns-in-Some : goal.returns-in-Some
returns-in-Some c = search rules
