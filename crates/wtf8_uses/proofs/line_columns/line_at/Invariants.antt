use Rattle.std.proofs.Common.{◌-◌, ◌≤◌, ◌<◌, length}
use Rattle.wtf8_uses.specs.LineColumns.{line_position}
use Rattle.wtf8_uses.proofs.line_columns.line_at.Given as goal

-- the last of the first `low` lines starts at or before the position, and the line with number `high` after it
abbrev pub invariant-loop-low : goal.invariant-loop-low
invariant-loop-low g l = record {
  some : 1 ≤ l.low;
  order : l.low ≤ l.high;
  within : l.high ≤ length l.lines.starts.items;
  before : line_position l.lines.starts.items (l.low - 1) ≤ l.position;
  after : l.high < length l.lines.starts.items → l.position < line_position l.lines.starts.items l.high;
}

abbrev pub decreases-loop-low : goal.decreases-loop-low
decreases-loop-low g l = l.high - l.low
