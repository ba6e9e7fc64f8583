use Rattle.wtf8.proofs.Common.{◌∙◌, arith, map-id, min}
use Rattle.wtf8.proofs.lemmas.lanes.AsciiFronts.{saturated_lanes, Each1-map_all}
use Rattle.wtf8.proofs.lanes.ascii.narrow_saturating.Goals as goal

pub overflow_cast-result : goal.overflow_cast-result
overflow_cast-result g c =
    rw (saturated_lanes g.row.N c.args.units c.fits-units.0) (Each1-map_all _ (λ n. min n 0xFF) (λ n. omega arith) c.args.units)

pub returns : goal.returns
returns g c = map-id _ ∙ saturated_lanes g.row.N c.args.units c.fits-units.0
