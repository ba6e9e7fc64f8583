-- Marks that stay valid when units are appended, and the units after a mark.
use Rattle.std.proofs.Common.{◌≡◌, ℕ, zero, suc, ◌+◌, ◌<◌, ◌≤◌, List, [], ◌∷◌, ◌++◌, length, drop, ap, ◌∙◌, sym, subst, add-zero, arith}
use Rattle.std.proofs.Common.{length-append, ◌≢◌, ◌*◌, ◌/◌, min, get_or, below_more, Box, Option, Some, None, IfSome}
use Rattle.std.proofs.lemmas.Bool.{false≢true}
use Rattle.std.proofs.lemmas.List.{get_or_append_left, get_or_push}
use Rattle.std.specs.Prelude.{vec_capacity, ◌↔◌}
use Rattle.std.specs.declared.vec.Vec.{Vec}
use Rattle.wtf8.specs.UnitMark.{IsMark, RoundsDownTo, MarksStay}
use Rattle.wtf8.specs.UnitPosition.{DividesPair}
use Rattle.wtf8.specs.UnitString.{UnitString}
use Rattle.wtf8.proofs.lemmas.codec.Readings.{unpaired-nil_left}
use Rattle.wtf8.proofs.lemmas.units.UnitCuts.{divides_after}
use Rattle.wtf8.specs.declared.units.marks.UnitMark.{UnitMark}
use Rattle.unit_text.specs.Marks.{AreEnough, AreKept, AreMarks, IsKept, spacing}

-- kept marks are still kept after units are appended
module _ (stay : MarksStay) (old new : UnitString) (v : List ℕ) (e : new.units ≡ old.units ++ v) where
  IsKept-append : (n : ℕ) (mark : UnitMark) → IsKept old.bytes old.units n mark → IsKept new.bytes new.units n mark
  IsKept-append n mark k = record {
    is_mark = rw e (stay old.bytes new.bytes old.units v mark.position mark.units old.form (rw e at new.form) k.before_last k.is_mark);
    at_most = k.at_most;
    at_least = k.at_least;
    before_last = omega (arith, ap length e, length-append old.units v);
  }

  pub AreKept-append : {Z : Type 0} (kept : Option (Box (Vec UnitMark Z) Z))
      → IfSome kept (λ k. AreMarks old.bytes old.units k.value.items (vec_capacity k.value))
      → IfSome kept (λ k. AreKept new.bytes new.units k.value.items)
  AreKept-append None h = h
  AreKept-append (Some k) h = λ i d l. IsKept-append _ _ (h.kept i d l)

-- a mark at `n` units, or one unit before if `n` divides a pair, is kept if `n` is below the number of units
pub IsKept-mark_at : (w u : List ℕ) (mark : UnitMark) (n : ℕ) → IsMark w u mark.position mark.units → RoundsDownTo u n mark.units
    → n < length u → IsKept w u n mark
IsKept-mark_at w u mark n m last h = grind arith

-- kept marks with the next kept mark appended are kept
pub AreKept-push : (w u : List ℕ) (marks : List UnitMark) (mark : UnitMark) (n : ℕ) → length marks ≡ n → AreKept w u marks
    → IsKept w u ((n + 1) * spacing) mark → AreKept w u (marks ++ mark ∷ [])
AreKept-push w u marks mark n e old new = λ k d l. below_more (λ j. IsKept w u ((j + 1) * spacing) (get_or (marks ++ mark ∷ []) j d)) n
    (λ j m. rw (get_or_append_left marks (mark ∷ []) d j (omega arith)) (old j d (omega arith)))
    (rw (get_or_push marks mark d n e) new) k (omega (arith, length-append marks (mark ∷ [])))

-- if no mark is missing, the mark that is chosen for `units` is at most `spacing + 1` units before it
pub chosen_mark_is_close : (w u : List ℕ) (marks : List UnitMark) (units at number : ℕ) → AreEnough w u (length marks) → length w ≢ length u
    → units ≤ length u → number ≡ min (length marks) (units / spacing) → number * spacing ≤ at + 1 → units ≤ at + spacing + 1
chosen_mark_is_close w u marks units at number enough not_ascii h e near =
    let next : (number + 1) * spacing < length u → number + 1 ≤ length marks = enough not_ascii (number + 1) in
    grind arith

-- a cut of the units after `m`, where no pair is divided, divides a pair of the whole exactly if it divides one of these units
pub divides_after_undivided : (u r : List ℕ) (m k : ℕ) {end : ℕ} → m + k ≡ end → m ≤ length u → r ≡ drop m u → ¬ (DividesPair u m)
    → k ≤ length r → DividesPair r k ↔ DividesPair u end
divides_after_undivided u r m zero s in_u e whole in_r =
    (λ x. absurd (unpaired-nil_left x), λ x. absurd (whole (subst (DividesPair u) (sym s ∙ add-zero m) x)))
divides_after_undivided u r m (suc k) {end = end} s in_u e whole in_r =
    divides_after u r None m (suc k) {end = end} (omega (arith, s)) in_u e (λ x. absurd (false≢true x), λ x. absurd (whole x)) (omega arith) in_r
