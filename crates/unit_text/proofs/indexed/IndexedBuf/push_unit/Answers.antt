use Rattle.std.proofs.Common.{[], ◌∷◌}
use Rattle.unit_text.proofs.indexed.IndexedBuf.push_unit.Goals as goal

pub count_more-requires-clause-marks : goal.count_more-requires-clause-marks
count_more-requires-clause-marks g c = (c.self.inside.text, c.args.unit ∷ [], (c.in_ok-push_unit.ensures.ok, c.self.invariant.1))
