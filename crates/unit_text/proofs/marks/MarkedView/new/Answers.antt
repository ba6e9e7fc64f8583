use Rattle.std.proofs.Common.{rules}
use Rattle.unit_text.proofs.marks.MarkedView.new.Goals as goal

pub returns-clause-marks : goal.returns-clause-marks
returns-clause-marks c = search rules
