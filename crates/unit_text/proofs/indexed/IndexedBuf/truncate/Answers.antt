use Rattle.std.proofs.Common.{rules}
use Rattle.std.proofs.Common.{◌-◌, ◌/◌, ◌≡◌, take, sym, ◌∙◌, subst, length, IfSome}
use Rattle.std.specs.Prelude.{vec_capacity}
use Rattle.wtf8.specs.Position.{IsFront}
use Rattle.wtf8.specs.View.{view_units, view_form}
use Rattle.unit_text.specs.Marks.{AreMarks, spacing}
use Rattle.unit_text.proofs.PositionLemmas.{AreMarks-truncated}
use Rattle.unit_text.proofs.indexed.IndexedBuf.truncate.Goals as goal

pub truncate_kept-requires : goal.truncate_kept-requires
truncate_kept-requires g c =
    let old = c.self.inside.text in
    let view = c.new-front.result.view in
    let v = view_units view in
    let front : IsFront old.units c.args.new_len v = rw c.new-front.ensures.units c.truncate.ensures.units in
    let mark = c.law_fronts.ensures.mark old.bytes old.units v c.args.new_len old.form front in
    let same_bytes : view.bytes.now ≡ take c.args.new_len old.bytes = c.new-front.ensures.bytes ∙ c.truncate.ensures.bytes in
    let units : v ≡ take (length v) old.units =
    (c.law_one_form.ensures.equal view.bytes.now (take c.args.new_len old.bytes) v (take (length v) old.units) (view_form view)
    mark.before).0 same_bytes in
    subst (λ n. IfSome c.self.inside.marks
    (λ m. AreMarks view.bytes.now v (take ((n - 1) / spacing) m.value.items) (vec_capacity m.value))) (sym c.new-front.result.counted)
    (AreMarks-truncated c.law_marks.ensures.equal c.law_marks.ensures.cut c.law_one_form.ensures.equal c.self.inside.marks old view
    (length v) mark.units_within units c.self.invariant.1)

pub new-front-requires : goal.new-front-requires
new-front-requires c = search rules
