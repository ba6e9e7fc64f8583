use Rattle.std.proofs.Common.{◌-◌, ◌≤◌, ◌<◌, length}
use Rattle.std.specs.Prelude.{slice_index_or}
use Rattle.unit_text.proofs.marks.MarkedView.kept_mark_before.Given as goal

-- the last of the first `low` marks is at or before the position, and the mark at index `high` after it
abbrev pub invariant-loop-low : goal.invariant-loop-low
invariant-loop-low l = record {
  order : l.low ≤ l.high;
  within : l.high ≤ length l.marks;
  before : 0 < l.low → (slice_index_or l.marks (l.low - 1) record { position = 0; units = 0 }).position ≤ l.position;
  after : l.high < length l.marks → l.position < (slice_index_or l.marks l.high record { position = 0; units = 0 }).position;
}

abbrev pub decreases-loop-low : goal.decreases-loop-low
decreases-loop-low l = l.high - l.low
