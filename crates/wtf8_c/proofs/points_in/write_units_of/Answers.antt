use Rattle.std.proofs.Common.{sym, ◌∙◌}
use Rattle.wtf8_c.proofs.Latin1Units.{units-low}
use Rattle.wtf8_c.proofs.points_in.write_units_of.Goals as goal

pub returns-clause-units : goal.returns-clause-units
returns-clause-units c = c.narrow.ensures ∙ sym (units-low c.args.points.now (c.has_pair.ensures c.if-has_pair.false))
