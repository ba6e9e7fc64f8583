use Rattle.wtf8.proofs.Common.{arith}
use Rattle.wtf8.proofs.lemmas.lanes.AsciiFronts.{by_all}
use Rattle.wtf8.proofs.lemmas.from_utf16.Kernel.{scalar_last_lanes-map}
use Rattle.wtf8.proofs.from_utf16.kernel.scalar_lasts.Goals as goal

pub returns : goal.returns
returns c = scalar_last_lanes-map c.args.units c.fits-units.0 c.fits-units.1

pub nonzero_rem-result : goal.nonzero_rem-result
nonzero_rem-result c = by_all c.args.units 64 (omega arith)
