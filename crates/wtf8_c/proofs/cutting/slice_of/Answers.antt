use Rattle.wtf8_c.proofs.Halves.{halves_of_part}
use Rattle.wtf8_c.proofs.cutting.slice_of.Goals as goal

pub returns-clause-halves : goal.returns-clause-halves
returns-clause-halves c =
    halves_of_part c.slice_units.result _ c.args.begin c.args.end c.slice_units.ensures.units c.slice_units.ensures.trail
    c.slice_units.ensures.lead
