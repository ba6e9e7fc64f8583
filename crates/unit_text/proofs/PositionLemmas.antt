-- Marks of a text that became shorter, and the units before the position of a mark.
use Rattle.std.proofs.Common.{◌≡◌, ◌≢◌, ℕ, ◌+◌, ◌-◌, ◌*◌, ◌/◌, ◌<◌, ◌≤◌, List, length, take, refl, sym, ap, ◌∙◌, arith}
use Rattle.std.proofs.Common.{Box, Option, Some, None, IfSome, get_or}
use Rattle.std.proofs.lemmas.List.{length-take, length-take-le, get_or-take}
use Rattle.std.specs.Prelude.{vec_capacity}
use Rattle.std.specs.declared.vec.Vec.{Vec}
use Rattle.wtf8.specs.Form.{IsForm}
use Rattle.wtf8.specs.Laws.{EqualFormsHaveEqualUnits}
use Rattle.wtf8.specs.UnitMark.{IsMark, EqualCountsAreMarks, MarksStayInFront, MarksAreInOneOrder}
use Rattle.wtf8.specs.UnitString.{UnitString}
use Rattle.wtf8.specs.View.{view_units, view_form}
use Rattle.wtf8.specs.declared.strings.view.Wtf8.{Wtf8}
use Rattle.wtf8.specs.declared.units.marks.UnitMark.{UnitMark}
use Rattle.unit_text.specs.Marks.{AreEnough, AreKept, AreMarks, spacing}

-- if no mark is missing, a mark at or before `position` has at most `spacing + 1` units more than the kept mark of index
-- `low - 1`, if the next kept mark is after `position`
pub kept_mark_before_is_close : MarksAreInOneOrder → (w u : List ℕ) (marks : List UnitMark) → IsForm w u → AreKept w u marks
    → AreEnough w u (length marks) → length w ≢ length u → (low position at : ℕ) (d : UnitMark) → low ≤ length marks
    → (low < length marks → position < (get_or marks low d).position) → low * spacing ≤ at + 1
    → (k n : ℕ) → IsMark w u k n → k ≤ position → n ≤ at + spacing + 1
kept_mark_before_is_close order w u marks f kept enough not_ascii low position at d within next near k n mark l =
    let before_next : low < length marks → n ≤ (low + 1) * spacing = λ h.
    let own = kept low d h in
    let other = get_or marks low d in
    let after = next h in
    let fewer = (order w u k other.position n other.units f mark own.is_mark).0 (omega arith) in
    omega (arith, own.at_most) in
    let last : (low + 1) * spacing < length u → low + 1 ≤ length marks = enough not_ascii (low + 1) in
    let all = mark.units_within in
    grind (arith, before_next, last, all, within, near)

module _ (equal : EqualCountsAreMarks) (cut : MarksStayInFront) (same : EqualFormsHaveEqualUnits) where
  -- the first units of a string with as many bytes as units have as many bytes as units
  equal_counts_of_front : (x w u : List ℕ) (n : ℕ) → IsForm x u → IsForm w (take n u) → n ≤ length u → length x ≡ length u
      → length w ≡ length (take n u)
  equal_counts_of_front x w u n f g within e =
      let mark = equal x u n f e (omega arith) in
      let front : w ≡ take n x = (same w (take n x) (take n u) (take n u) g mark.before).1 refl in
      ap length front ∙ (length-take-le n x (omega arith) ∙ sym (length-take-le n u within))

  -- the kept marks before the last unit of a text that became shorter are its marks
  AreMarks-truncate : (old : UnitString) (new : Wtf8) (n : ℕ) → n ≤ length old.units → view_units new ≡ take n old.units
      → (marks : List UnitMark) (capacity : ℕ) → AreMarks old.bytes old.units marks capacity
      → AreMarks new.bytes.now (view_units new) (take ((n - 1) / spacing) marks) capacity
  AreMarks-truncate old new n within e marks capacity m =
      let count = (n - 1) / spacing in
      let form : IsForm new.bytes.now (take n old.units) = rw e at (view_form new) in
      let long : length (view_units new) ≡ n = ap length e ∙ length-take-le n old.units within in
      let fewer = length-take count marks in
      record {
        kept = λ k d l.
            let own = m.kept k d (omega arith) in
            let mark = get_or marks k d in
            rw (get_or-take count marks k d (omega arith)) (record {
              is_mark = rw e (cut new.bytes.now old.bytes old.units mark.position mark.units n old.form form (omega (arith, own.at_most))
                  within own.is_mark);
              at_most = own.at_most;
              at_least = own.at_least;
              before_last = omega (arith, own.at_most);
            });
        all = λ room not_ascii number l.
            let old_not_ascii : length old.bytes ≢ length old.units =
            λ s. not_ascii (equal_counts_of_front old.bytes new.bytes.now old.units n old.form form within s ∙ sym (ap length e)) in
            let enough : length marks < capacity → number ≤ length marks = λ free. m.all free old_not_ascii number (omega arith) in
            grind (arith, enough, fewer, long, l, room);
      }

  pub AreMarks-truncated : {Z : Type 0} (kept : Option (Box (Vec UnitMark Z) Z)) (old : UnitString) (new : Wtf8) (n : ℕ) → n ≤ length old.units
      → view_units new ≡ take n old.units → IfSome kept (λ k. AreMarks old.bytes old.units k.value.items (vec_capacity k.value))
      → IfSome kept (λ k. AreMarks new.bytes.now (view_units new) (take ((n - 1) / spacing) k.value.items) (vec_capacity k.value))
  AreMarks-truncated None old new n within e h = h
  AreMarks-truncated (Some k) old new n within e h = AreMarks-truncate old new n within e k.value.items (vec_capacity k.value) h
