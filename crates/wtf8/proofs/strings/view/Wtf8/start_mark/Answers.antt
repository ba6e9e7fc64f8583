use Rattle.wtf8.proofs.Common.{arith}
use Rattle.wtf8.proofs.lemmas.units.UnitMarks.{mark_at_cut}
use Rattle.wtf8.proofs.strings.view.Wtf8.start_mark.Goals as goal

pub returns-clause-mark : goal.returns-clause-mark
returns-clause-mark c = grind (arith, mark_at_cut)
