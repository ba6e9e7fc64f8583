use Rattle.wtf8.specs.UnitPosition.{units_of_slice}
use Rattle.unit_text.proofs.indexed.IndexedBuf.push_unit_slice.Goals as goal

pub count_more-requires-clause-marks : goal.count_more-requires-clause-marks
count_more-requires-clause-marks g c =
    (c.self.inside.text, units_of_slice c.args.slice, (c.in_ok-push_unit_slice.ensures.ok, c.self.invariant.1))
