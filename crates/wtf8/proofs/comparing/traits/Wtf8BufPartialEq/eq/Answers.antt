use Rattle.wtf8.proofs.Common.{rules, arith}
use Rattle.wtf8.proofs.lemmas.comparing.Order.{equal_points, equal_units}
use Rattle.wtf8.proofs.comparing.traits.Wtf8BufPartialEq.eq.Goals as goal

pub returns-clause-bytes : goal.returns-clause-bytes
returns-clause-bytes g c = search rules

pub returns-clause-points : goal.returns-clause-points
returns-clause-points g c = equal_points _ _ _ c.args.self.now.form.encoded c.args.other.now.form.encoded (returns-clause-bytes g c)

pub returns-clause-units : goal.returns-clause-units
returns-clause-units g c = grind (arith, equal_units)
