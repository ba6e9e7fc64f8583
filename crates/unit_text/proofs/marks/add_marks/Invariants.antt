use Rattle.std.proofs.Common.{◌≡◌, ◌*◌, ◌≤◌, length}
use Rattle.wtf8.specs.UnitMark.{IsMarkOf}
use Rattle.wtf8.specs.View.{view_units}
use Rattle.unit_text.specs.Marks.{AreKept}
use Rattle.unit_text.proofs.marks.add_marks.Given as goal

-- the marks so far are kept, and `last` is a mark at or before unit index `number * 128`
abbrev pub invariant-loop-number : goal.invariant-loop-number
invariant-loop-number g l = record {
  counted : length l.marks.items ≡ l.number;
  kept : AreKept l.fn.text.view.bytes.now (view_units l.fn.text.view) l.marks.items;
  is_mark : IsMarkOf l.fn.text.view l.last;
  before : l.last.units ≤ l.number * 128;
}
