use Rattle.std.proofs.Common.{◌≡◌, ◌+◌, ◌-◌, ◌∙◌, ◌++◌, ◌≤◌, ap, sym, subst, arith, length, take, drop, length-append, length-drop, length-take}
use Rattle.wtf8.specs.View.{view_units, view_form}
use Rattle.unit_text.specs.private.Search.{pattern_units}
use Rattle.unit_text.proofs.SearchLemmas.{IsWindow, IsWindow-rounded, NoneBetween, from_first, last_in_whole, none_in_longer}
use Rattle.unit_text.proofs.search.last_by_parts.Goals.{After-slice_to-text, After-last_in_block}
use Rattle.unit_text.proofs.search.last_by_parts.Goals as goal

window : (g : _) (c : After-slice_to-text g) → IsWindow c.loop-end.end.units c.loop-end.window (length c.divide.result.0.now)
    c.mark_back-begin.result.units c.mark_at-after.result.units
window g c =
    IsWindow-rounded (view_units c.args.view) c.loop-end.end.units c.loop-end.window (length c.divide.result.0.now) c.saturating_sub.result
    c.mark_back-begin.result.units c.mark_at-after.result.units c.saturating_sub.ensures c.mark_back-begin.ensures.last c.mark_at-after.ensures.last

-- the units before the mark `after`
front : (g : _) (c : After-slice_to-text g) → view_units c.slice_to-text.result ≡ take c.mark_at-after.result.units (view_units c.args.view)
front g c = c.law_mark.ensures.front (view_units c.slice_to-text.result) c.slice_to-text.ensures.units

pub overflow_add-end : goal.overflow_add-end
overflow_add-end g c =
    omega (
      arith,
      ap length c.divide.ensures.units,
      length-append c.divide.result.0.now (pattern_units c.divide.result.1),
      c.loop-end.invariant.order,
      c.requires.within,
      c.requires.fits,
    )

pub slice_from_mark-requires : goal.slice_from_mark-requires
slice_from_mark-requires g c =
    let at = (goal.at.slice_from_mark-requires g c).After-slice_to-text in
    let u = view_units c.args.view in
    let text = c.slice_to-text.result in
    let begin = c.mark_back-begin.result in
    let after = c.mark_at-after.result in
    let same = front g at in
    let w = window g at in
    rw same (c.law_marks.ensures.cut text.bytes.now c.args.view.bytes.now u begin.position begin.units after.units
    (view_form c.args.view) (rw same at (view_form text)) (omega (arith, w.before, w.reach, c.divide.ensures.some))
    c.mark_at-after.ensures.mark.units_within c.mark_back-begin.ensures.mark)

pub write_units-count-requires : goal.write_units-count-requires
write_units-count-requires g c =
    let at = (goal.at.write_units-count-requires g c).After-slice_to-text in
    let u = view_units c.args.view in
    let begin = c.mark_back-begin.result.units in
    let after = c.mark_at-after.result.units in
    let w = window g at in
    omega (
      arith,
      ap length (c.slice_from_mark.ensures.units ∙ ap (drop begin) (front g at)),
      length-drop begin (take after u),
      length-take after u,
      w.least,
      w.most,
      c.loop-end.invariant.fits,
      c.loop-end.invariant.block,
    )

-- the block, of the units between the marks
between : (g : _) (c : After-last_in_block g) → view_units c.slice_to-text.result ≡ take c.mark_at-after.result.units (view_units c.args.view)
    → take c.write_units-count.result c.write_units-count.new.out ≡ drop c.mark_back-begin.result.units (take c.mark_at-after.result.units (view_units c.args.view))
between g c same = c.write_units-count.ensures.units ∙ c.slice_from_mark.ensures.units ∙ ap (drop c.mark_back-begin.result.units) same

-- the block and the units after it are the units from the mark `begin` on
whole : (g : _) (c : After-last_in_block g) → view_units c.slice_to-text.result ≡ take c.mark_at-after.result.units (view_units c.args.view)
    → c.mark_back-begin.result.units ≤ c.mark_at-after.result.units
    → take c.write_units-count.result c.write_units-count.new.out ++ view_units c.slice_from_mark-back.result
    ≡ drop c.mark_back-begin.result.units (view_units c.args.view)
whole g c same order =
    let u = view_units c.args.view in
    let begin = c.mark_back-begin.result.units in
    let after = c.mark_at-after.result.units in
    ap (λ l. l ++ view_units c.slice_from_mark-back.result) (between g c same)
    ∙ ap (λ l. drop begin (take after u) ++ l) c.slice_from_mark-back.ensures.units
    ∙ from_first u begin after order c.mark_at-after.ensures.mark.units_within

pub last_in_block-requires-clause-limit : goal.last_in_block-requires-clause-limit
last_in_block-requires-clause-limit g c =
    let at = (goal.at.last_in_block-requires-clause-limit g c).After-slice_to-text in
    let begin = c.mark_back-begin.result.units in
    let after = c.mark_at-after.result.units in
    let w = window g at in
    omega (
      arith,
      w.before,
      w.reach,
      c.divide.ensures.some,
      ap length (c.write_units-count.ensures.units ∙ c.slice_from_mark.ensures.units ∙ ap (drop begin) (front g at)),
      length-drop begin (take after (view_units c.args.view)),
      length-take after (view_units c.args.view),
      c.mark_at-after.ensures.mark.units_within,
    )

pub returns-in-Some : goal.returns-in-Some
returns-in-Some g c =
    let at = goal.at.returns-in-Some g c in
    let u = view_units c.args.view in
    let s = pattern_units c.args.pattern in
    let begin = c.mark_back-begin.result.units in
    let n = c.loop-end.end.units - begin in
    let until = c.args.until.units in
    let w = window g at.After-slice_to-text in
    let all = whole g at.After-last_in_block (front g at.After-slice_to-text) (omega (arith, w.before, w.reach, c.divide.ensures.some)) in
    let end : begin + n ≡ c.loop-end.end.units = omega (arith, w.before) in
    last_in_whole u s begin n until c.mark_back-begin.ensures.mark.units_within c.in-Some.index
    (rw all at (rw c.divide.ensures.units at c.in-Some.ensures)) (omega (arith, end, c.loop-end.invariant.order))
    (subst (λ k. NoneBetween u s k until) (sym end) c.loop-end.invariant.none)

pub loop-end-preserved : goal.loop-end-preserved
loop-end-preserved g c =
    let at = goal.at.loop-end-preserved g c in
    let u = view_units c.args.view in
    let s = pattern_units c.args.pattern in
    let begin = c.mark_back-begin.result.units in
    let n = c.loop-end.end.units - begin in
    let until = c.args.until.units in
    let w = window g at.After-slice_to-text in
    let all = whole g at.After-last_in_block (front g at.After-slice_to-text) (omega (arith, w.before, w.reach, c.divide.ensures.some)) in
    let end : begin + n ≡ c.loop-end.end.units = omega (arith, w.before) in
    record {
      block = omega (arith, c.write_units-count.ensures.len, c.loop-end.invariant.block);
      some = omega (arith, c.min-window.ensures, c.loop-end.invariant.some, c.loop-end.invariant.fits);
      fits = omega (arith, c.min-window.ensures, c.loop-end.invariant.fits);
      mark = c.mark_back-begin.ensures.mark;
      order = omega (arith, w.before, c.loop-end.invariant.order);
      none = none_in_longer u s begin n until c.mark_back-begin.ensures.mark.units_within (rw all at (rw c.divide.ensures.units at c.in_default.ensures))
          (subst (λ k. NoneBetween u s k until) (sym end) c.loop-end.invariant.none);
    }
