use Rattle.std.proofs.Common.{◌≤◌, ◌-◌, ◌/◌, take, sym, ap, ◌∙◌, subst, arith, length, IfSome}
use Rattle.std.specs.Prelude.{vec_capacity}
use Rattle.wtf8.specs.UnitString.{UnitString}
use Rattle.wtf8.specs.View.{view_units}
use Rattle.unit_text.specs.Marks.{AreMarks, spacing}
use Rattle.unit_text.proofs.PositionLemmas.{AreMarks-truncated}
use Rattle.unit_text.proofs.indexed.IndexedBuf.truncate_units.Goals as goal

pub truncate_kept-requires : goal.truncate_kept-requires
truncate_kept-requires g c =
    let view = c.new-text.result.view in
    let within : c.args.n ≤ length c.self.inside.text.units =
    omega (arith, c.requires, ap (λ (s : UnitString). length s.units) c.self.view_is) in
    subst (λ n. IfSome c.self.inside.marks
    (λ m. AreMarks view.bytes.now (view_units view) (take ((n - 1) / spacing) m.value.items) (vec_capacity m.value))) (sym c.new-text.ensures.count)
    (AreMarks-truncated c.law_marks.ensures.equal c.law_marks.ensures.cut c.law_one_form.ensures.equal c.self.inside.marks
    c.self.inside.text view c.args.n within (c.new-text.ensures.units ∙ c.truncate_units_at.ensures.units) c.self.invariant.1)
