use Rattle.wtf8.proofs.lemmas.units.UnitLanes.{all_words}
use Rattle.wtf8.proofs.units.unit_ends.interleave.Goals as goal

pub returns : goal.returns
returns c =
    let own = all_words c.args.low c.args.high c.fits-low.0 c.fits-high.0 in
    record { first = own.first; second = own.second; third = own.third; fourth = own.fourth }
