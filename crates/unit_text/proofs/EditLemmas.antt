-- Marks before units that were replaced.
use Rattle.std.proofs.Common.{◌≡◌, ℕ, ◌+◌, ◌-◌, ◌*◌, ◌/◌, ◌<◌, ◌≤◌, List, ◌++◌, length, take, drop, sym, ap, subst, arith}
use Rattle.std.proofs.Common.{Box, Option, Some, None, IfSome, get_or, length-append, take-append-drop}
use Rattle.std.proofs.lemmas.List.{length-take, length-take-le, get_or-take}
use Rattle.std.specs.Prelude.{vec_capacity}
use Rattle.std.specs.declared.vec.Vec.{Vec}
use Rattle.wtf8.specs.Form.{IsForm}
use Rattle.wtf8.specs.UnitMark.{IsMark, MarksStay, MarksStayInFront}
use Rattle.wtf8.specs.UnitString.{UnitString}
use Rattle.wtf8.specs.declared.units.marks.UnitMark.{UnitMark}
use Rattle.wtf8.proofs.lemmas.strings.ExtendedForms.{beginning_of_form}
use Rattle.unit_text.specs.Marks.{AreKept, AreMarks, IsKept, spacing}

-- kept marks before unit `begin` are still kept after the units from there on were replaced
module _ (stay : MarksStay) (cut : MarksStayInFront) (old new : UnitString) (begin : ℕ) (rest : List ℕ) (within : begin ≤ length old.units)
    (e : new.units ≡ take begin old.units ++ rest) where
  IsKept-edited : (n : ℕ) (mark : UnitMark) → n < begin → IsKept old.bytes old.units n mark → IsKept new.bytes new.units n mark
  IsKept-edited n mark l k =
      let u = take begin old.units in
      let long : length u ≡ begin = length-take-le begin old.units within in
      let whole : IsForm old.bytes (u ++ drop begin old.units) = subst (IsForm old.bytes) (sym (take-append-drop begin old.units)) old.form in
      let front = beginning_of_form u (drop begin old.units) old.bytes whole in
      let first = cut front.whole old.bytes old.units mark.position mark.units begin old.form front.form (omega (arith, k.at_most, l)) within k.is_mark in
      let now = stay front.whole new.bytes u rest mark.position mark.units front.form (subst (IsForm new.bytes) e new.form)
      (omega (arith, k.at_most, l, long)) first in
      record {
        is_mark = subst (λ v. IsMark new.bytes v mark.position mark.units) (sym e) now;
        at_most = k.at_most;
        at_least = k.at_least;
        before_last = omega (arith, ap length e, length-append u rest, long, k.at_most, l);
      }

  pub AreKept-edited : {Z : Type 0} (kept : Option (Box (Vec UnitMark Z) Z))
      → IfSome kept (λ k. AreMarks old.bytes old.units k.value.items (vec_capacity k.value))
      → IfSome kept (λ k. AreKept new.bytes new.units (take ((begin - 1) / spacing) k.value.items))
  AreKept-edited None h = h
  AreKept-edited (Some k) h = λ i d l.
      let count = (begin - 1) / spacing in
      let marks = k.value.items in
      let fewer = length-take count marks in
      rw (get_or-take count marks i d (omega (arith, l, fewer)))
      (IsKept-edited ((i + 1) * spacing) (get_or marks i d) (omega (arith, l, fewer)) (h.kept i d (omega (arith, l, fewer))))
