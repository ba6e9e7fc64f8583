use Rattle.wtf8.proofs.Common.{arith}
use Rattle.wtf8.proofs.lemmas.codec.Readings.{lists_have_lengths}
use Rattle.wtf8.proofs.strings.view.Wtf8.code_points.Goals as goal

pub returns-clause-fits : goal.returns-clause-fits
returns-clause-fits c = grind (arith, lists_have_lengths, c.new.ensures)
