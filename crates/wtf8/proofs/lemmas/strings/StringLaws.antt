-- The laws of strings, and of lists of building calls.
use Rattle.wtf8.proofs.Common.{ℕ, List, [], ◌++◌, length, refl, ap, ◌∙◌, sym, subst, arith, append-nil, units, bytes, Reads, IsForm}
use Rattle.wtf8.proofs.Common.{IsBoundary, ◌≡◌, ◌≢◌, ◌<◌, ◌+◌, inl, ◌∷◌, get_or, All-cons, All-head, All-nil, All, IsFront, Some, ◌≤◌, inr}
use Rattle.wtf8.proofs.Common.{cases_lt, ◌↔◌, glue, AreScalar, view_units, view_form, Wtf8, Result, Ok, Err, OnOk, OnErr, AppendsUnits}
use Rattle.wtf8.proofs.Common.{KeepsContents, UnitString, on_ok_weaker, ◌⊎◌, All-tail, IsUnit, IsWellFormed, Step, Run, Build, Reserve}
use Rattle.wtf8.proofs.Common.{Truncate, TruncateUnits, IsNoTruncation, slice_index, All-from_get_or, All-pop, All-same, FitWithin}
use Rattle.wtf8.proofs.Common.{AddsLength, RunsOnce, RunsAddUp, LeavesReserved, length-append, well_formed_of}
use Rattle.wtf8.specs.StringLaws.{EqualBuffersHaveEqualUnits, EqualBufferAndViewHaveEqualUnits, EqualViewsHaveEqualUnits, StringsAreJoined}
use Rattle.wtf8.specs.StringLaws.{StringsArePaired, RoomLeftIsFound, ScalarsStay, FormsAreOfBuffers, FormsAreOfViews, WhatFitsIsFound}
use Rattle.wtf8.proofs.lemmas.codec.Encoding.{Begins}
use Rattle.wtf8.proofs.lemmas.codec.Readings.{same_form, same_reading, form_append-unpaired}
use Rattle.wtf8.proofs.lemmas.strings.Concatenation.{equal_forms, form-glue, form_paired, length_paired, one_form}
use Rattle.wtf8.proofs.lemmas.strings.Concatenation.{units_read, split_of_push}
use Rattle.wtf8.proofs.lemmas.strings.Positions.{cut_at, front_unique, front_boundary, boundary_from_byte, byte_from_boundary}
use Rattle.wtf8.proofs.lemmas.strings.Surrogates.{lossy_points-scalar}
use Rattle.wtf8.proofs.lemmas.strings.PositionLaws.{both_no_longer, ascii_no_other_unit}

-- Proofs of the laws of strings as contracts see them.

pub equal_buffers : EqualBuffersHaveEqualUnits
equal_buffers s t = equal_forms s.bytes t.bytes s.units t.units s.form t.form

pub equal_buffer_and_view : EqualBufferAndViewHaveEqualUnits
equal_buffer_and_view s t = equal_forms s.bytes t.bytes.now s.units (view_units t) s.form (view_form t)

pub equal_views : EqualViewsHaveEqualUnits
equal_views s t = equal_forms s.bytes.now t.bytes.now (view_units s) (view_units t) (view_form s) (view_form t)

pub strings_joined : StringsAreJoined
strings_joined s t both e n = same_form both.bytes (s.bytes ++ t.bytes) both.units both.form
    (subst (IsForm (s.bytes ++ t.bytes)) (sym e) (form_append-unpaired s.bytes t.bytes s.units t.units s.form t.form n))

pub strings_paired : StringsArePaired
strings_paired s t both e m =
    same_form both.bytes _ both.units both.form (subst (IsForm _) (sym e) (form_paired s.bytes t.bytes s.units t.units s.form t.form m))

pub room_left : RoomLeftIsFound
room_left s w v f h =
    let whole = bytes (glue s.form.points f.points) in
    let form : IsForm whole (s.units ++ v) = form-glue s.bytes w s.units v s.form f in
    record { whole = whole; form = form; within = omega (arith, both_no_longer s.bytes w whole s.units v s.form f form) }

pub scalars_stay : ScalarsStay
scalars_stay = lossy_points-scalar

pub forms_of_buffers : FormsAreOfBuffers
forms_of_buffers s w u form e = same_form s.bytes w u (subst (IsForm s.bytes) e s.form) form

pub forms_of_views : FormsAreOfViews
forms_of_views t w u form e = same_form t.bytes.now w u (subst (IsForm t.bytes.now) e (view_form t)) form

pub what_fits : WhatFitsIsFound
what_fits s v n fit h = room_left s fit.whole v fit.form (omega (arith, fit.within, h))

-- the code points are scalar values exactly if they are in each reading of the units
pub scalar_in_each_reading : (c u : List ℕ) → Reads c u → AreScalar c ↔ ((d : List ℕ) → Reads d u → AreScalar d)
scalar_in_each_reading c u r = (λ s d x. subst AreScalar (same_reading c d r.clean x.clean (r.same_units ∙ sym x.same_units)) s, λ h. h c r)

-- an ASCII number that is none of a view's bytes is none of its units
pub no_ascii_unit : (t : Wtf8) (b : ℕ) → b < 0x80 → ((j : ℕ) → j < length t.bytes.now → slice_index t.bytes.now j ≢ b)
    → All (λ x. x ≢ b) (view_units t)
no_ascii_unit t b l h =
    ascii_no_other_unit t.bytes.now (view_units t) b (view_form t) l (All-from_get_or (λ x. x ≢ b) t.bytes.now 0 (λ i m e. h i m e))

-- The bytes after an appending call, by its clauses about units.

module _ {T E : Type 0} where
  -- the length grows by at most the length of the appended form
  pub grows_at_most : (r : Result T E) (old : UnitString) {new u : List ℕ} (w v : List ℕ) → IsForm new u → IsForm w v
      → OnOk r (u ≡ old.units ++ v) → OnOk r (length new ≤ length old.bytes + length w)
  grows_at_most r old {new} w v form more ok =
      on_ok_weaker r (λ e. both_no_longer old.bytes w new old.units v old.form more (subst (IsForm new) e form)) ok

  -- the length by which a string grows if a view is appended
  pub added_length : (r : Result T E) (old new : UnitString) (other : Wtf8) → OnOk r (AppendsUnits old (view_units other) new)
      → OnOk r (AddsLength old other new)
  added_length r old new other ok = on_ok_weaker r (λ e.
      let both = subst (IsForm new.bytes) e new.form in
      record {
        pair = length_paired old.bytes other.bytes.now new.bytes old.units (view_units other) old.form (view_form other) both;
        apart = λ n. ap length (same_form new.bytes (old.bytes ++ other.bytes.now) (old.units ++ (view_units other)) both
            (form_append-unpaired old.bytes other.bytes.now old.units (view_units other) old.form (view_form other) n))
            ∙ length-append old.bytes other.bytes.now;
      }) ok

  -- appending no units, or a refused request, leaves the contents unchanged
  pub nothing_appended : (r : Result T E) (old new : UnitString) (v : List ℕ) → v ≡ [] →
      OnOk r (AppendsUnits old v new) → OnErr r (KeepsContents old new) → KeepsContents old new
  nothing_appended (Ok _) old new v e ok err =
      let same = ok ∙ (ap (λ x. old.units ++ x) e ∙ append-nil old.units) in record { units = same; bytes = (equal_buffers new old).1 same }
  nothing_appended (Err _) old new v e ok err = err

-- A list of building calls has exactly one outcome and one number of refused truncations.

-- it is decidable whether all numbers are units
units_or_not : (u : List ℕ) → All IsUnit u ⊎ (All IsUnit u → ⊥)
units_or_not [] = inl (All-nil IsUnit)
units_or_not (x ∷ u) = elim (cases_lt x 0x10000) [
  | inl h ↦ elim (units_or_not u) [ inl s ↦ inl (All-cons IsUnit x u (omega arith) s) | inr n ↦ inr (λ s. n (All-tail IsUnit x u s)) ]
  | inr h ↦ inr (λ s. omega (arith, All-head IsUnit x u s))
]

starts_or_not : (w : List ℕ) (k : ℕ) → (k < length w → Begins (get_or w k 0)) ⊎ ((k < length w → Begins (get_or w k 0)) → ⊥)
starts_or_not w k = grind (arith, cases_lt)

-- it is decidable whether a position is a boundary
cut_or_not : {w : List ℕ} (h : IsWellFormed w) (k : ℕ) → IsBoundary (units h.points) k ⊎ (IsBoundary (units h.points) k → ⊥)
cut_or_not {w} h k = elim (starts_or_not w k) [
  | inl s ↦ elim (cases_lt (length w) k) [
    | inl m ↦ inr (λ b. omega (arith, (cut_at h k b).within))
    | inr m ↦ inl (boundary_from_byte h k m s)
  ]
  | inr n ↦ inr (λ b. n (byte_from_boundary h k b))
]

boundary_or_not : (u : List ℕ) (k : ℕ) → IsBoundary u k ⊎ (IsBoundary u k → ⊥)
boundary_or_not u k = elim (units_or_not u) [
  | inl s ↦
      let f = (one_form u s).has in
      subst (λ v. IsBoundary v k ⊎ (IsBoundary v k → ⊥)) f.reads.same_units (cut_or_not (well_formed_of f) k)
  | inr n ↦ inr (λ b. n (units_read (b.front ++ b.back) u b.splits.reads))
]

-- a call has exactly one outcome
record StepsOnce (u : List ℕ) (call : Build) : Type 0 where
  outcome : List ℕ
  count : ℕ
  goes : Step u call outcome count
  no_other : (v : List ℕ) (r : ℕ) → Step u call v r → (v ≡ outcome) × (r ≡ count)

step_once : (u : List ℕ) (call : Build) → StepsOnce u call
step_once u (Truncate k) = elim (boundary_or_not u k) [
  | inl b ↦
      let f : IsFront u k (units b.front) = record { front = b.front; back = b.back; splits = b.splits; same_units = refl } in
      record {
        outcome = _;
        count = _;
        goes = inl (f, refl);
        no_other = λ v r s. elim s [ inl x ↦ (front_unique u k v _ x.0 f, x.1) | inr n ↦ absurd (n.0 b) ];
      }
  | inr n ↦ record { outcome = _; count = _; goes = inr (n, refl, refl); no_other = λ v r s. grind (arith, front_boundary) }
]
step_once u (TruncateUnits n) = elim (cases_lt (length u) n) [
  | inl h ↦ record { outcome = _; count = _; goes = inr (h, refl, refl); no_other = λ v r s. grind arith }
  | inr h ↦ record { outcome = _; count = _; goes = inl (h, refl, refl); no_other = λ v r s. grind arith }
]
step_once u call = record { outcome = _; count = _; goes = (refl, refl); no_other = λ v r s. s }

-- a run of `front` followed by a run of `back` is a run of `front ++ back`
pub runs_add : RunsAddUp
runs_add u mid v [] back m n x y = grind (arith)
runs_add u mid v (call ∷ front) back m n x y = (x.0, x.1, x.2 + n, x.3, runs_add x.0 mid v front back x.2 n x.4 y, omega (arith, x.5))

pub run_once : (u : List ℕ) (calls : List Build) → RunsOnce u calls
run_once u [] = record { outcome = u; count = 0; goes = (refl, refl); no_other = λ v n r. r }
run_once u (call ∷ calls) =
    let first = step_once u call in
    let rest = run_once first.outcome calls in
    record {
      outcome = rest.outcome;
      count = first.count + rest.count;
      goes = (first.outcome, first.count, rest.count, first.goes, rest.goes, refl);
      no_other = λ v n r.
          let same = first.no_other r.0 r.1 r.3 in
          let ends = rest.no_other v r.2 (subst (λ m. Run m calls v r.2) same.0 r.4) in
          (ends.0, omega (arith, r.5, same.1, ends.1));
    }

-- after one more call the bytes that it reserved fit, and those reserved before it do unless it truncates
pub reserved_more : {u now : List ℕ} {calls : List Build} {call : Build} {capacity larger : ℕ} (n : ℕ) → LeavesReserved u calls capacity
    → Run u calls now n → (IsNoTruncation call → capacity ≤ larger) → ((m : ℕ) → call ≡ Reserve m → FitWithin now m larger)
    → LeavesReserved u (calls ++ call ∷ []) larger
reserved_more {u} {now} {calls} {call} {capacity} {larger} n f ran grows here front back m v r e none run =
    elim (split_of_push calls call front (Reserve m) back e) [
      | inl at_last ↦
          let once = run_once u calls in
          let outcome = (once.no_other now n ran).0 ∙ sym (once.no_other v r (subst (λ c. Run u c v r) (sym at_last.0) run)).0 in
          subst (λ w. FitWithin w m larger) outcome (here m at_last.1)
      | inr before ↦
          let rest = before.0 in
          let all = All-pop IsNoTruncation
          (rest ++ call ∷ []) rest (Some call) refl (All-same IsNoTruncation (rest ++ call ∷ []) back (sym before.2) none) in
          let found = f front rest m v r before.1 all.0 run in
          record { whole = found.whole; form = found.form; within = omega (arith, found.within, grows all.1) }
    ]
