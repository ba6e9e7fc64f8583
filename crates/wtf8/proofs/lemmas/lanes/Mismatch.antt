-- Bytes compared in lanes: the mask of a block, and lists without a mismatch.
use Rattle.wtf8.proofs.Common.{◌≡◌, ◌≢◌, ◌↔◌, ℕ, zero, suc, ◌+◌, ◌<◌, ◌≤◌, eqb, Bool, true, false, IsTrue, cond, not, inl, inr, refl, sym}
use Rattle.wtf8.proofs.Common.{ap, arith, List, [], ◌∷◌, ◌∙◌, map, length, get_or, nat_eq, take, take_all, cases_Bool, both_ways}
use Rattle.wtf8.proofs.Common.{eq-eqb, eqb-true, length-chunk, get_or-chunk, get_or-zip2, length-zip2, tops_compared, mask_l, w8, None}
use Rattle.wtf8.proofs.Common.{Some, Option, ◌%◌, ◌^◌, pointwise, bytes_decides, chunk, zip2, top, IsLeast, NoneIn, not-true, MatchOption}
use Rattle.wtf8.proofs.Common.{DifferAt, DecidesNone, IsFirstSet, IsSet, false_from_ne_true}
use Rattle.wtf8.proofs.lemmas.lanes.Masks.{first_at_offset, lowest_set, none_set}

abbrev is_unequal : ℕ → ℕ → Bool
is_unequal x y = not (eqb x y)

is_unequal_iff : (x y : ℕ) → IsTrue (is_unequal x y) ↔ (x ≢ y)
is_unequal_iff x y = grind (arith, both_ways, not-true, eq-eqb, cases_Bool, eqb, eqb-true)

-- the mask of the lanes in which the blocks at `i` differ, and the indexes of the mismatches
module _ (n : ℕ) (w v : List ℕ) (i : ℕ) (few : n ≤ 64) (own : i + n ≤ length w) (others : i + n ≤ length v) where
  abbrev unequal_lanes : List Bool
  unequal_lanes = zip2 is_unequal (chunk i n w) (chunk i n v)

  abbrev unequal_mask : ℕ
  unequal_mask = mask_l (map (top 7) (zip2 (λ a b. cond (is_unequal a b) 255 0) (chunk i n w) (chunk i n v))) % 2 ^ 64

  length-unequal_lanes : length unequal_lanes ≡ n
  length-unequal_lanes = grind (arith, length-zip2, length-chunk)

  unequal_mask-mask_l : unequal_mask ≡ mask_l unequal_lanes % 2 ^ 64
  unequal_mask-mask_l = ap (λ ms. mask_l ms % 2 ^ 64) (tops_compared w8 is_unequal (chunk i n w) (chunk i n v))

  IsSet-unequal_lanes : (k : ℕ) → k < n → IsSet unequal_lanes k ↔ DifferAt w v (i + k)
  IsSet-unequal_lanes k l = grind (arith, get_or-zip2, length-chunk, get_or-chunk, is_unequal_iff)

  pub first_unequal_lane : (r : Option ℕ) → IsFirstSet unequal_mask r
      → MatchOption r (NoneIn (DifferAt w v) i (i + n)) (λ k. IsLeast (DifferAt w v) i (i + k) × (i + k < i + n))
  first_unequal_lane r first = first_at_offset (DifferAt w v) (IsSet unequal_lanes) i n IsSet-unequal_lanes r
      (first n unequal_lanes few length-unequal_lanes unequal_mask-mask_l)

  pub unequal_mask-nonzero : ¬ (NoneIn (DifferAt w v) i (i + n)) → unequal_mask ≢ 0
  unequal_mask-nonzero found e = found (first_at_offset (DifferAt w v) (IsSet unequal_lanes) i n IsSet-unequal_lanes None
      (none_set unequal_mask n unequal_lanes few length-unequal_lanes unequal_mask-mask_l e))

  pub unequal_mask-decides : DecidesNone (DifferAt w v) i (i + n) (eqb unequal_mask 0)
  unequal_mask-decides = elim (cases_Bool (eqb unequal_mask 0)) [
    | inl t ↦ rw t (first_at_offset (DifferAt w v) (IsSet unequal_lanes) i n IsSet-unequal_lanes None
        (none_set unequal_mask n unequal_lanes few length-unequal_lanes unequal_mask-mask_l (eqb-true unequal_mask 0 t)))
    | inr f ↦ rw f (λ none.
        let found = first_at_offset (DifferAt w v) (IsSet unequal_lanes) i n IsSet-unequal_lanes (Some _) (lowest_set unequal_mask n
        unequal_lanes few length-unequal_lanes unequal_mask-mask_l (λ e. both_ways _ f (eq-eqb unequal_mask 0 e))) in
        none _ found.0.not_before found.1 found.0.here)
  ]

-- lists without a mismatch before `n` have the same first `n` items
pub take-before_mismatch : (n : ℕ) (w v : List ℕ) → n ≤ length w → n ≤ length v → NoneIn (DifferAt w v) 0 n → take n w ≡ take n v
take-before_mismatch zero w v p q h = refl
take-before_mismatch (suc n) [] v p q h = absurd (omega arith)
take-before_mismatch (suc n) (x ∷ w) [] p q h = absurd (omega arith)
take-before_mismatch (suc n) (x ∷ w) (y ∷ v) p q h = elim (cases_Bool (eqb x y)) [
  | inl t ↦
      λ i. eqb-true x y t i ∷ take-before_mismatch n w v (omega arith) (omega arith) (λ j _ l. h (suc j) (omega arith) (omega arith)) i
  | inr f ↦ absurd (h 0 (omega arith) (omega arith) (λ e. both_ways _ f (eq-eqb x y e)))
]

-- a Boolean that is true exactly if lists of equal length have no mismatch is the result of their comparison
pub pointwise-from_no_mismatch : (b : Bool) (w v : List ℕ) → length w ≡ length v → DecidesNone (DifferAt w v) 0 (length w) b
    → b ≡ pointwise nat_eq w v
pointwise-from_no_mismatch true w v long none =
    let front = take-before_mismatch (length w) w v (omega arith) (omega arith) none in
    sym ((bytes_decides w v).1 (sym (take_all (length w) w (omega arith)) ∙ (front ∙ take_all (length w) v (omega arith))))
pointwise-from_no_mismatch false w v long found =
    sym (false_from_ne_true _ (λ t. found (λ j _ _ d. d (ap (λ w. get_or w j 0) ((bytes_decides w v).0 t)))))
