use Rattle.wtf8.proofs.Common.{arith, eqb-true}
use Rattle.wtf8.proofs.lemmas.from_utf16.Transcode.{none_surrogate}
use Rattle.wtf8.proofs.lemmas.lanes.AsciiFronts.{by_all}
use Rattle.wtf8.proofs.from_utf16.kernel.are_scalar.Goals as goal

pub returns : goal.returns
returns c t = none_surrogate c.args.units c.fits-units.0 c.fits-units.1 (eqb-true _ 0 t)

pub nonzero_div-result : goal.nonzero_div-result
nonzero_div-result c = by_all c.args.units 2048 (omega arith)
