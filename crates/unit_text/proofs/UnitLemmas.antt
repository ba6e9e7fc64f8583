-- Numbers of units, and units that are written one part after another.
use Rattle.std.proofs.Common.{◌≡◌, ◌+◌, ◌-◌, ◌<◌, ◌≤◌, ◌++◌, ℕ, List, [], ◌∷◌, Option, Some, None, length, take, drop, slice_get, suc, ap, sym, ◌∙◌, arith}
use Rattle.std.proofs.Common.{MatchOption, append-nil, length-append, length-take}
use Rattle.std.proofs.Math.Seq.{take-append-add, drop-append-add, drop-cons}
use Rattle.std.proofs.lemmas.List.{drop-drop, drop_all, take-append-drop}
use Rattle.std.proofs.lemmas.Option.{get_or_from_slice_get, slice_get_within}
use Rattle.std.proofs.lemmas.Slice.{take-put_mid, drop-put_mid}
use borrow.Rule.Slice.PartMut.{put_mid}
use Rattle.unit_text.specs.Written.{WritesAt}

-- a list whose part from index `at` on was replaced by one that begins with `v` and goes on as before
pub WritesAt-part : (old ys v : List ℕ) (at k : ℕ) → k ≡ length old - at → at + length v ≤ length old → length ys ≡ k
    → take (length v) ys ≡ v → drop (length v) ys ≡ drop (length v) (drop at old) → WritesAt old at v (put_mid at k old ys)
WritesAt-part old ys v at k rest within long front back =
    let new = put_mid at k old ys in
    let n = length old in
    let all : new ≡ take at old ++ ys =
    sym (take-append-drop n new) ∙ ap (λ z. z ++ drop n new) (take-put_mid at k old ys n (omega (arith, rest, within, long))
    (omega (arith, within)))
    ∙ ap (λ z. (take at old ++ ys) ++ z) (drop-put_mid at k old ys n (omega (arith, rest, within)) (omega (arith, within)) long
    ∙ drop_all n old (omega arith)) ∙ append-nil (take at old ++ ys) in
    let begin : at ≡ length (take at old) = omega (arith, length-take at old, within) in
    record {
      front = ap (take (at + length v)) all ∙ ap (λ n. take (n + length v) (take at old ++ ys)) begin
          ∙ take-append-add (take at old) ys (length v) ∙ ap (λ z. take at old ++ z) front;
      back = ap (drop (at + length v)) all ∙ ap (λ n. drop (n + length v) (take at old ++ ys)) begin
          ∙ drop-append-add (take at old) ys (length v) ∙ back ∙ drop-drop (length v) at old;
      len = omega (arith, ap length all, length-append (take at old) ys, begin, long, rest, within);
    }

-- the units left after the first of them was yielded
pub after_first : (r : Option ℕ) (s t : List ℕ) → 0 < length s → MatchOption r ((s ≡ []) × (t ≡ [])) (λ x. s ≡ x ∷ t) → t ≡ drop 1 s
after_first None s t n e = absurd (omega (arith, n, ap length e.0))
after_first (Some x) s t n e = sym (ap (drop 1) e)

-- the units from index `b` on, of which `x` is the first
pub drop_unit : (u : List ℕ) (b x : ℕ) → slice_get u b ≡ Some x → drop b u ≡ x ∷ drop (b + 1) u
drop_unit u b x e =
    let next : suc b ≡ b + 1 = omega arith in
    drop-cons u b 0 (slice_get_within u b x e) ∙ ap (λ y. y ∷ drop (suc b) u) (get_or_from_slice_get u b x 0 e)
    ∙ ap (λ n. x ∷ drop n u) next
