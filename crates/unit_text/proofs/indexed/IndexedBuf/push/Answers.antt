use Rattle.wtf8.specs.CodePoint.{number}
use Rattle.wtf8.specs.Unicode.{units_of}
use Rattle.unit_text.proofs.indexed.IndexedBuf.push.Goals as goal

pub count_more-requires-clause-marks : goal.count_more-requires-clause-marks
count_more-requires-clause-marks g c =
    (c.self.inside.text, units_of (number c.args.code_point), (c.in_ok-push.ensures.ok, c.self.invariant.1))
