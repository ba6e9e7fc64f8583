use Rattle.std.proofs.Common.{◌≡◌, ◌≤◌, ◌++◌, length, drop, map}
use Rattle.wtf8.specs.Units.{unread_units}
use Rattle.wtf8.specs.UnitMark.{IsMarkOf}
use Rattle.wtf8.specs.View.{view_units}
use Rattle.wtf8_uses.specs.LineColumns.{AreMarksOf, StartsAtFront, line_starts, mark_units, starts_after}
use Rattle.wtf8_uses.proofs.line_columns.lines_of.Given as goal

-- the units from `count` on are unread, `last` is a mark at or before them, and the starts so far are followed by those
-- of the lines in the unread units
abbrev pub invariant-loop-unit : goal.invariant-loop-unit
invariant-loop-unit g l = record {
  unread : drop l.count (view_units l.fn.text) ≡ unread_units l.unit-iterator;
  within : l.count ≤ length (view_units l.fn.text);
  is_mark : IsMarkOf l.fn.text l.last;
  before : l.last.units ≤ l.count;
  marks : AreMarksOf l.fn.text.bytes.now (view_units l.fn.text) l.starts.items;
  first : StartsAtFront l.starts.items;
  starts : map mark_units l.starts.items ++ starts_after l.count (unread_units l.unit-iterator) ≡ line_starts (view_units l.fn.text);
}
