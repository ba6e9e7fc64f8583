-- Masks of lanes: the lowest set bit is the first set lane, and so the first position of a block with a property.
use Rattle.wtf8.proofs.Common.{◌≡◌, ◌↔◌, ℕ, ◌+◌, ◌-◌, ◌%◌, ◌^◌, ◌<◌, ◌≤◌, Bool, true, false, not, Option, Some}
use Rattle.wtf8.proofs.Common.{None, List, [], ◌∷◌, map, length, sym, ap, ◌∙◌, subst, arith, both_ways}
use Rattle.wtf8.proofs.Common.{mask_l-mod, mask_l, NoneIn, IsLeast, not-false}
use Rattle.wtf8.proofs.Common.{not-true, map-id, prefix_len_passes, prefix_len_stops, prefix_len}
use Rattle.wtf8.proofs.Common.{MatchOption, IsFirstIn, IsSet}
use Rattle.std.proofs.lemmas.Simd.{leading_from_mask_l, trailing_mask_l}
use lib.Count.{count_trailing_zeros}

-- if the mask is not 0, a lane is set
prefix_len_from_mask_l : (bs : List Bool) → 0 < mask_l bs → prefix_len (λ b. not b) bs < length bs
prefix_len_from_mask_l [] h = absurd (omega arith)
prefix_len_from_mask_l (true ∷ bs) h = omega arith
prefix_len_from_mask_l (false ∷ bs) h = omega (arith, prefix_len_from_mask_l bs (omega arith))

module _ (bits n : ℕ) (lanes : List Bool) (few : n ≤ 64) (long : length lanes ≡ n) (same : bits ≡ mask_l lanes % 2 ^ 64) where
  bits-mask_l : bits ≡ mask_l (map (λ b. b) lanes)
  bits-mask_l = same ∙ (mask_l-mod lanes 64 (omega (arith, long, few)) ∙ ap mask_l (sym (map-id lanes)))

  not_set_in_prefix : (k : ℕ) → k < prefix_len (λ b. not b) lanes → ¬ (IsSet lanes k)
  not_set_in_prefix k l t = both_ways _ (not-true _ (prefix_len_passes (λ b. not b) lanes k false l)) t

  pub none_set : bits ≡ 0 → NoneIn (IsSet lanes) 0 n
  none_set e k _ l = not_set_in_prefix k (omega (arith, l, long, leading_from_mask_l (λ b. b) lanes (sym bits-mask_l ∙ e)))

  pub lowest_set : ¬ (bits ≡ 0) → IsLeast (IsSet lanes) 0 (count_trailing_zeros 64 bits) × (count_trailing_zeros 64 bits < n)
  lowest_set e =
      let some_lane = prefix_len_from_mask_l lanes (omega (arith, bits-mask_l, ap mask_l (map-id lanes), e)) in
      let counted = ap (count_trailing_zeros 64) bits-mask_l
      ∙ trailing_mask_l (λ b. b) 64 lanes (omega (arith, long, few)) (omega (arith, bits-mask_l, e)) in
      subst (λ t. IsLeast (IsSet lanes) 0 t × (t < n)) (sym counted) (
        record {
          not_before = omega arith;
          here = not-false _ (prefix_len_stops (λ b. not b) lanes false some_lane);
          none_between = λ k _ l. not_set_in_prefix k l;
        },
        omega (arith, some_lane, long),
      )

-- equivalent properties have the same first lane
pub IsFirstIn-iff : (P Q : ℕ → Type 0) (n : ℕ) → ((k : ℕ) → k < n → P k ↔ Q k) → (r : Option ℕ) → IsFirstIn P 0 n r → IsFirstIn Q 0 n r
IsFirstIn-iff P Q n equivalent r none = grind (arith)

-- if lane `k` has `Q` exactly if position `i + k` has `P`, the first lane with `Q` gives the first position with `P`
pub first_at_offset : (P Q : ℕ → Type 0) (i n : ℕ) → ((k : ℕ) → k < n → Q k ↔ P (i + k)) → (r : Option ℕ) → IsFirstIn Q 0 n r
    → MatchOption r (NoneIn P i (i + n)) (λ k. IsLeast P i (i + k) × (i + k < i + n))
first_at_offset P Q i n equivalent r first = by r first
  where
    none : (m : ℕ) → m ≤ n → NoneIn Q 0 m → NoneIn P i (i + m)
    none m le unset j low high q =
        let same_index : i + (j - i) ≡ j = omega arith in
        unset (j - i) (omega arith) (omega arith) ((equivalent (j - i) (omega arith)).1 (subst P (sym same_index) q))

    by : (r : Option ℕ) → IsFirstIn Q 0 n r → MatchOption r (NoneIn P i (i + n)) (λ k. IsLeast P i (i + k) × (i + k < i + n))
    by None h = none n (omega arith) h
    by (Some k) h = (
      record {
        not_before = omega arith;
        here = (equivalent k h.1).0 h.0.here;
        none_between = none k (omega (arith, h.1)) h.0.none_between;
      },
      omega (arith, h.1),
    )
