use Rattle.std.proofs.Common.{◌≡◌, ◌+◌, ◌<◌, ◌≤◌, length}
use Rattle.wtf8.specs.UnitMark.{IsMarkOf}
use Rattle.wtf8.specs.View.{view_units}
use Rattle.unit_text.specs.private.Search.{pattern_units}
use Rattle.unit_text.proofs.SearchLemmas.{NoneBetween}
use Rattle.unit_text.proofs.search.last_by_parts.Given as goal

-- the pattern does not occur from the mark `end` on; a window and what is decoded after it fit the block
abbrev pub invariant-loop-end : goal.invariant-loop-end
invariant-loop-end g l = record {
  block : length l.block ≡ g.row.N;
  some : 0 < l.window;
  fits : l.window + 1 + length l.front ≤ g.row.N;
  mark : IsMarkOf l.view l.end;
  order : l.end.units ≤ l.fn.until.units;
  none : NoneBetween (view_units l.view) (pattern_units l.pattern) l.end.units l.fn.until.units;
}

abbrev pub decreases-loop-end : goal.decreases-loop-end
decreases-loop-end g l = l.end.units
