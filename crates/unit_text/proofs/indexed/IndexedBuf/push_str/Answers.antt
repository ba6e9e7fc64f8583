use Rattle.std.specs.Str.{chars}
use Rattle.wtf8.specs.Unicode.{units}
use Rattle.unit_text.proofs.indexed.IndexedBuf.push_str.Goals as goal

pub count_more-requires-clause-marks : goal.count_more-requires-clause-marks
count_more-requires-clause-marks g c =
    (c.self.inside.text, units (chars c.args.other.now), (c.in_ok-push_str.ensures.ok, c.self.invariant.1))
