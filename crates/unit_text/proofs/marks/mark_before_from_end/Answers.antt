use Rattle.std.proofs.Common.{◌≡◌, ◌-◌, length, length-append, refl, ap, subst, arith}
use Rattle.wtf8.specs.Position.{IsFront}
use Rattle.wtf8.specs.Unicode.{units}
use Rattle.wtf8.specs.UnitMark.{IsMark}
use Rattle.wtf8.specs.View.{view_units, view_form}
use Rattle.unit_text.proofs.marks.mark_before_from_end.Goals as goal

pub returns-clause-mark : goal.returns-clause-mark
returns-clause-mark c =
    let view = c.args.text.view in
    let u = view_units view in
    let at = c.boundary_before-position.result in
    let cut = c.boundary_before-position.ensures.boundary in
    let before = units cut.front in
    let front : IsFront u at before = record { front = cut.front; back = cut.back; splits = cut.splits; same_units = refl } in
    let after = view_units c.slice_from.result in
    let count : length before ≡ c.args.text.count - c.unit_len.result =
    omega (
      arith,
      ap length (c.slice_from.ensures.whole before front),
      length-append before after,
      c.args.text.counted,
      c.unit_len.ensures,
    ) in
    subst (λ n. IsMark view.bytes.now u at n) count (c.law_fronts.ensures.mark view.bytes.now u before at (view_form view) front)
