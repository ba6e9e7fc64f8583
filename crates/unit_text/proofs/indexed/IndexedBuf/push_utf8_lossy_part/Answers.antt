use Rattle.std.specs.Prelude.{take}
use Rattle.wtf8.specs.Unicode.{units}
use Rattle.wtf8.specs.Utf8.{lossy_chars}
use Rattle.unit_text.proofs.indexed.IndexedBuf.push_utf8_lossy_part.Goals as goal

pub count_more-requires-clause-marks : goal.count_more-requires-clause-marks
count_more-requires-clause-marks g c = (
  c.self.inside.text,
  units (lossy_chars (take c.in_ok-used.used c.args.text.now)),
  (c.in_ok-used.ensures.ok, c.self.invariant.1),
)
