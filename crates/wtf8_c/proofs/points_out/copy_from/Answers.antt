use Rattle.std.proofs.Common.{◌≡◌, ℕ, ◌+◌, ◌≤◌, ◌⊎◌, List, length, take, drop, min, inl, inr, sym, ap, ◌∙◌, subst, arith, length-drop}
use Rattle.std.proofs.Math.Nat.{min-eq_left, min-eq_right}
use Rattle.std.proofs.lemmas.Bool.{cases_lt}
use Rattle.std.proofs.lemmas.List.{take_all}
use Rattle.wtf8.specs.Form.{bytes}
use Rattle.wtf8.specs.Position.{IsBack}
use Rattle.wtf8.specs.View.{view_form, view_points, view_units}
use Rattle.wtf8.specs.declared.strings.view.Wtf8.{Wtf8}
use Rattle.wtf8.proofs.lemmas.strings.PositionLaws.{none_is_beyond}
use Rattle.wtf8_c.specs.Walks.{ArePointsBetween}
use Rattle.wtf8_c.proofs.Walks.{first_points_after, back_points}
use Rattle.wtf8_c.proofs.points_out.copy_from.Goals as goal

-- the first `n` code points after a boundary, which are `got` and have `m` bytes
copied_points : {u : List ℕ} {begin : ℕ} (rest : Wtf8) (b : IsBack u begin (view_units rest)) (n m : ℕ) (got : List ℕ)
    → got ≡ take n (view_points rest) → m ≡ length (bytes (take n (view_points rest))) → ArePointsBetween u begin (begin + m) got
copied_points {u} {begin} rest b n m got e l =
    let same : take n b.back ≡ take n (view_points rest) = ap (take n) (back_points rest b) in
    let ends : begin + length (bytes (take n b.back)) ≡ begin + m = omega (arith, ap (λ v. length (bytes v)) same, l) in
    subst (λ k. ArePointsBetween u begin k got) ends
    (subst (λ v. ArePointsBetween u begin (begin + length (bytes (take n b.back))) v) (same ∙ sym e) (first_points_after b n))

-- where the code points are fewer than the elements, all are copied
full_or_all : (rest : Wtf8) (w : List ℕ) (begin size n m : ℕ) → rest.bytes.now ≡ drop begin w → begin ≤ length w
    → n ≡ min size (length (view_points rest)) → m ≡ length (bytes (take n (view_points rest))) → (n ≡ size) ⊎ (begin + m ≡ length w)
full_or_all rest w begin size n m e l is at = elim (cases_lt (length (view_points rest)) size) [
  | inl fewer ↦
      let count : n ≡ length (view_points rest) = is ∙ min-eq_right (omega (arith, fewer)) in
      let whole : take n (view_points rest) ≡ view_points rest = take_all n (view_points rest) (omega (arith, count)) in
      inr (omega (arith, at, ap (λ v. length (bytes v)) whole, ap length rest.well_formed.encoded, ap length e, length-drop begin w, l))
  | inr more ↦ inl (is ∙ min-eq_left more)
]

pub returns-clause-ok : goal.returns-clause-ok
returns-clause-ok c = λ _. copied_points c.slice_from.result c.slice_from.ensures.units _ _ _ c.copy_points-count.ensures.points c.copy_points-count.ensures.bytes

pub returns-clause-all : goal.returns-clause-all
returns-clause-all c = λ _.
    let b = c.slice_from.ensures.units in
    full_or_all c.slice_from.result c.args.text.bytes.now _ _ _ _ c.slice_from.ensures.bytes
    (none_is_beyond _ _ _ (view_form c.args.text) (record { front = b.front; back = b.back; splits = b.splits })) c.copy_points-count.ensures.count c.copy_points-count.ensures.bytes
