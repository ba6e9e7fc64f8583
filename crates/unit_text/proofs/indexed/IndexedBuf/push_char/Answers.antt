use Rattle.wtf8.specs.Unicode.{units_of}
use Rattle.unit_text.proofs.indexed.IndexedBuf.push_char.Goals as goal

pub count_more-requires-clause-marks : goal.count_more-requires-clause-marks
count_more-requires-clause-marks g c = (c.self.inside.text, units_of c.args.c, (c.in_ok-push_char.ensures.ok, c.self.invariant.1))
