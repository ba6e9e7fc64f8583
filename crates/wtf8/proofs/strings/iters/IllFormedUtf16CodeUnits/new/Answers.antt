use Rattle.wtf8.proofs.Common.{arith}
use Rattle.wtf8.proofs.lemmas.units.UnitCuts.{none_held}
use Rattle.wtf8.proofs.lemmas.codec.Readings.{IsWellFormed-equal_bytes, same_points}
use Rattle.wtf8.proofs.strings.iters.IllFormedUtf16CodeUnits.new.Goals as goal

pub invariant_of-result : goal.invariant_of-result
invariant_of-result c =
    let w = c.args.view.well_formed in (omega arith, (IsWellFormed-equal_bytes w (none_held w).1, tt))

pub returns : goal.returns
returns c =
    let w = c.args.view.well_formed in
    record { held = (none_held w).0; points = same_points c.result-1.given.1.0 w (none_held w).1 }
