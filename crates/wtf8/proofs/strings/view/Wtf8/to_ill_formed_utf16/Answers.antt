use Rattle.wtf8.proofs.Common.{arith}
use Rattle.wtf8.proofs.strings.view.Wtf8.to_ill_formed_utf16.Goals as goal

pub returns-clause-fits : goal.returns-clause-fits
returns-clause-fits c = grind (arith, c.len.ensures.at_least_units, c.new.ensures.held)
