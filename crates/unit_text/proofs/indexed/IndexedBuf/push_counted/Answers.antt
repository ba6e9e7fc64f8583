use Rattle.wtf8.specs.View.{view_units}
use Rattle.unit_text.proofs.indexed.IndexedBuf.push_counted.Goals as goal

pub count_more-requires-clause-marks : goal.count_more-requires-clause-marks
count_more-requires-clause-marks g c = (c.self.inside.text, view_units c.args.other, (c.in_ok-push_wtf8.ensures.ok, c.self.invariant.1))
