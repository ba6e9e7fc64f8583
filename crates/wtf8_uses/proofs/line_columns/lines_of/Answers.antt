use Rattle.std.proofs.Common.{◌≡◌, ◌≢◌, ◌+◌, ◌++◌, map, ap, ◌∙◌, arith}
use Rattle.wtf8.specs.Units.{unread_units}
use Rattle.wtf8.specs.View.{view_units}
use Rattle.wtf8_uses.specs.LineColumns.{line_starts, mark_units, starts_after}
use Rattle.wtf8_uses.proofs.LineLemmas.{next_unread, next_within, starts_more, starts_same, marks_more, first_more}
use Rattle.wtf8_uses.proofs.line_columns.lines_of.Goals as goal

pub loop-unit-preserved-in-Continue-branch-2 : goal.loop-unit-preserved-in-Continue-branch-2
loop-unit-preserved-in-Continue-branch-2 g c =
    let u = view_units c.args.text in
    let bytes = c.args.text.bytes.now in
    let i = c.loop-unit.invariant in
    let before = unread_units c.loop-unit.unit-iterator in
    let after = unread_units c.next.new.self in
    let n = c.loop-unit.count in
    let mark = c.mark_after_line_feed-last.result in
    let found = c.mark_after_line_feed-last.ensures in
    let pushed = c.in_ok-push-2.ensures.items in
    let feed : c.in-Some.unit ≡ 0x0A = omega arith in
    let starts = starts_more c.loop-unit.starts.items mark n c.in-Some.unit before after
    (line_starts u) c.in-Some.ensures.steps feed found.units i.starts in
    record {
      unread = next_unread u before after n c.in-Some.unit i.unread c.in-Some.ensures.steps;
      within = next_within u before after n c.in-Some.unit i.unread c.in-Some.ensures.steps;
      is_mark = found.mark;
      before = omega arith;
      marks = rw pushed (marks_more bytes u c.loop-unit.starts.items mark i.marks found.mark);
      first = rw pushed (first_more c.loop-unit.starts.items mark i.first);
      starts = ap (λ m. map mark_units m ++ starts_after (n + 1) after) pushed ∙ starts;
    }

pub loop-unit-preserved : goal.loop-unit-preserved
loop-unit-preserved g c =
    let u = view_units c.args.text in
    let i = c.loop-unit.invariant in
    let before = unread_units c.loop-unit.unit-iterator in
    let after = unread_units c.next.new.self in
    let n = c.loop-unit.count in
    let other : c.in-Some.unit ≢ 0x0A = omega arith in
    record {
      unread = next_unread u before after n c.in-Some.unit i.unread c.in-Some.ensures.steps;
      within = next_within u before after n c.in-Some.unit i.unread c.in-Some.ensures.steps;
      is_mark = i.is_mark;
      before = omega arith;
      marks = i.marks;
      first = i.first;
      starts = starts_same (map mark_units c.loop-unit.starts.items) n c.in-Some.unit before after
          (line_starts u) c.in-Some.ensures.steps other i.starts;
    }
