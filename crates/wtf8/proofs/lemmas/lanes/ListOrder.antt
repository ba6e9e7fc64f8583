-- The order of lists of numbers: item by item, by the items at the first mismatch, and by lengths where there is none.
use Rattle.wtf8.proofs.Common.{◌≡◌, ℕ, zero, suc, ◌<◌, inl, inr, List, [], ◌∷◌, ◌++◌, ◌∙◌, refl, sym, ap, arith, length, get_or, min}
use Rattle.wtf8.proofs.Common.{cases_order, Less, Greater, nat_cmp, ordering_reverse, slice_cmp, option_cmp, nat_tests}
use Rattle.wtf8.proofs.Common.{Before, IsMismatch, DifferAt, NoneIn, IsLeast, slice_get, slice_get-get_or}
use Rattle.std.proofs.lemmas.Cmp.{nat_cmp_total, nat_list_cmp_total, tied_itself}
use Rattle.wtf8.proofs.lemmas.lanes.Mismatch.{take-before_mismatch}

pub cmp_less : (x y : ℕ) → x < y → nat_cmp x y ≡ Less
cmp_less x y h = grind (arith, nat_tests)

pub cmp_greater : (x y : ℕ) → y < x → nat_cmp x y ≡ Greater
cmp_greater x y h = grind (arith, nat_tests)

-- the list that is before the other compares as less
pub slice_cmp-less : (c d : List ℕ) → Before c d → slice_cmp nat_cmp c d ≡ Less
slice_cmp-less [] [] h = absurd h
slice_cmp-less [] (y ∷ ys) h = refl
slice_cmp-less (x ∷ xs) [] h = absurd h
slice_cmp-less (x ∷ xs) (y ∷ ys) h = grind (arith, cmp_less, tied_itself, nat_cmp_total, slice_cmp-less xs ys)

pub slice_cmp-greater : (c d : List ℕ) → Before d c → slice_cmp nat_cmp c d ≡ Greater
slice_cmp-greater c d h = nat_list_cmp_total.antisymm c d ∙ ap ordering_reverse (slice_cmp-less d c h)

-- a common front does not affect a comparison
pub cmp-append_left : (f c d : List ℕ) → slice_cmp nat_cmp (f ++ c) (f ++ d) ≡ slice_cmp nat_cmp c d
cmp-append_left [] c d = refl
cmp-append_left (x ∷ f) c d = grind (arith, tied_itself, nat_cmp_total, cmp-append_left f c d)

-- without their equal first items, lists first differ one index earlier
pub mismatch-cons : (x y : ℕ) (w v : List ℕ) (n : ℕ) → IsMismatch (x ∷ w) (y ∷ v) (suc n) → IsMismatch w v n
mismatch-cons x y w v n d = grind (arith)

-- lists compare as their items at the first difference, with `None` for the end
pub order_at_mismatch : (w v : List ℕ) (at : ℕ)
    → IsMismatch w v at → option_cmp nat_cmp (slice_get w at) (slice_get v at) ≡ slice_cmp nat_cmp w v
order_at_mismatch [] [] at d = refl
order_at_mismatch [] (y ∷ v) zero d = refl
order_at_mismatch [] (y ∷ v) (suc n) d = absurd (omega (arith, d.within_first))
order_at_mismatch (x ∷ w) [] zero d = refl
order_at_mismatch (x ∷ w) [] (suc n) d = absurd (omega (arith, d.within_second))
order_at_mismatch (x ∷ w) (y ∷ v) zero d = grind (arith, cases_order, cmp_less, slice_cmp-less, cmp_greater, slice_cmp-greater)
order_at_mismatch (x ∷ w) (y ∷ v) (suc n) d =
    grind (arith, mismatch-cons, cmp-append_left, order_at_mismatch w v n (mismatch-cons x y w v n d))

-- lists that are equal up to the length of the shorter compare as their lengths
pub order_of_lengths : (w v : List ℕ) → NoneIn (DifferAt w v) 0 (min (length w) (length v))
    → nat_cmp (length w) (length v) ≡ slice_cmp nat_cmp w v
order_of_lengths [] [] h = tied_itself nat_cmp_total 0
order_of_lengths [] (y ∷ v) h = cmp_less 0 (length (y ∷ v)) (omega arith)
order_of_lengths (x ∷ w) [] h = cmp_greater (length (x ∷ w)) 0 (omega arith)
order_of_lengths (x ∷ w) (y ∷ v) h = elim (cases_order x y) [
  | inl e ↦
      let longer : nat_cmp (suc (length w)) (suc (length v)) ≡ nat_cmp (length w) (length v) = grind (arith, nat_tests) in
      longer ∙ (order_of_lengths w v (λ j _ l. h (suc j) (omega arith) (omega arith)) ∙ rw e (sym (cmp-append_left (y ∷ []) w v)))
  | inr n ↦ absurd (h 0 (omega arith) (omega arith) (λ e. omega (arith, n, e)))
]

-- lists compare as their items at the first mismatch
pub order_at : (w v : List ℕ) (at : ℕ) → IsLeast (DifferAt w v) 0 at × (at < min (length w) (length v))
    → nat_cmp (get_or w at 0) (get_or v at 0) ≡ slice_cmp nat_cmp w v
order_at w v at h =
    let own : at < length w = omega (arith, h.1) in
    let others : at < length v = omega (arith, h.1) in
    let d : IsMismatch w v at = grind (arith, take-before_mismatch) in
    rw (slice_get-get_or w at 0 own, slice_get-get_or v at 0 others) at (order_at_mismatch w v at d)
