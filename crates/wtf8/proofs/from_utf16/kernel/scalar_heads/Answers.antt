use Rattle.wtf8.proofs.Common.{arith}
use Rattle.wtf8.proofs.lemmas.lanes.AsciiFronts.{by_all}
use Rattle.wtf8.proofs.lemmas.from_utf16.Kernel.{scalar_head_lanes-map}
use Rattle.wtf8.proofs.from_utf16.kernel.scalar_heads.Goals as goal

pub returns : goal.returns
returns c = scalar_head_lanes-map c.args.units c.fits-units.0 c.fits-units.1

pub nonzero_div-middle : goal.nonzero_div-middle
nonzero_div-middle c = by_all c.args.units 64 (omega arith)

pub nonzero_rem-middle : goal.nonzero_rem-middle
nonzero_rem-middle c = by_all _ 64 (omega arith)

pub nonzero_div-firsts : goal.nonzero_div-firsts
nonzero_div-firsts c = by_all c.args.units 4096 (omega arith)
