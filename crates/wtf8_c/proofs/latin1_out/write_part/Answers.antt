use Rattle.std.proofs.Common.{arith}
use Rattle.wtf8_c.proofs.Walks.{few_units}
use Rattle.wtf8_c.proofs.latin1_out.write_part.Goals as goal

pub write_units-n-requires : goal.write_units-n-requires
write_units-n-requires c = omega (arith, few_units c.args.part, c.requires.short)
