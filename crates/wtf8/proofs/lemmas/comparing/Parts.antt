-- Lists of units compared part by part.
use Rattle.wtf8.proofs.Common.{◌≡◌, ℕ, ◌-◌, ◌<◌, ◌≤◌, ◌↔◌, ◌⊎◌, List, [], ◌∷◌, ◌++◌, ◌∙◌, refl, sym, ap, arith, length, take, drop}
use Rattle.wtf8.proofs.Common.{inl, inr, true, false, min, nat_cmp, slice_cmp, ordering_then, Ordering, Less, Equal, Greater, false≢true, cases_lt}
use Rattle.wtf8.proofs.Common.{bytes, encoding, units, IsClean, IsBoundary, IsWellFormed, length-append, append-nil}
use Rattle.std.proofs.lemmas.List.{take_min, drop_min}
use Rattle.std.specs.Ordering.{is_ne}
use Rattle.wtf8.proofs.lemmas.codec.Encoding.{length-encoding_bounds}
use Rattle.std.proofs.lemmas.List.{places, same_lists}
use Rattle.wtf8.proofs.lemmas.lanes.Entries.{get_of}
use Rattle.wtf8.proofs.Common.{rules}
use Rattle.wtf8.proofs.Common.{◌+◌}

-- the first code point of a string that is not empty ends at a boundary
abbrev first_of : (c w : List ℕ) → IsClean c → bytes c ≡ w → 0 < length w
    → (k : ℕ) × (0 < k) × (k ≤ 4) × (k ≤ length w) × IsBoundary (units c) k
first_of [] w clean e some = absurd (omega (arith, some, ap length e))
first_of (p ∷ c) w clean e some =
    let long = length-encoding_bounds p in (
      length (encoding p),
      omega (arith, long.0),
      long.1,
      omega (arith, ap length e, length-append (encoding p) (bytes c)),
      record {
        front = p ∷ [];
        back = c;
        splits = record { reads = record { clean = clean; same_units = refl }; front_len = ap length (append-nil (encoding p)) };
      },
    )

pub first_boundary : {w : List ℕ} (h : IsWellFormed w) → 0 < length w
    → (k : ℕ) × (0 < k) × (k ≤ 4) × (k ≤ length w) × IsBoundary (units h.points) k
first_boundary {w} h some = first_of h.points w h.clean h.encoded some

then_assoc : (o s t r : Ordering) → s ≡ ordering_then t r → ordering_then o s ≡ ordering_then (ordering_then o t) r
then_assoc Less s t r e = refl
then_assoc Equal s t r e = e
then_assoc Greater s t r e = refl

-- a list that begins with a part compares as the part, and if that is equal as the rest
cmp_parts : (a x b : List ℕ) → slice_cmp nat_cmp (a ++ x) b
    ≡ ordering_then (slice_cmp nat_cmp a (take (length a) b)) (slice_cmp nat_cmp x (drop (length a) b))
cmp_parts [] x b = refl
cmp_parts (p ∷ a) x [] = refl
cmp_parts (p ∷ a) x (q ∷ b) = then_assoc (nat_cmp p q) _ _ _ (cmp_parts a x b)

decided : (r s : Ordering) → is_ne r ≡ true → ordering_then r s ≡ r
decided Less s t = refl
decided Equal s t = absurd (false≢true t)
decided Greater s t = refl

undecided : (r s : Ordering) → is_ne r ≡ false → ordering_then r s ≡ s
undecided Less s t = absurd (false≢true (sym t))
undecided Equal s t = refl
undecided Greater s t = absurd (false≢true (sym t))

-- a part `a` of `n` items of a list `u`, and the rest `x` of it, beside a list `v`
module _ (a x u v : List ℕ) (n : ℕ) (whole : a ++ x ≡ u) (count : length a ≡ n) where
  cmp_by_parts : slice_cmp nat_cmp u v
      ≡ ordering_then (slice_cmp nat_cmp a (take (min n (length v)) v)) (slice_cmp nat_cmp x (drop (min n (length v)) v))
  cmp_by_parts = grind (arith, cmp_parts, take_min, drop_min)

  pub cmp_decided : (r : Ordering) → r ≡ slice_cmp nat_cmp a (take (min n (length v)) v) → is_ne r ≡ true → slice_cmp nat_cmp u v ≡ r
  cmp_decided r is t = cmp_by_parts ∙ ap (λ o. ordering_then o (slice_cmp nat_cmp x (drop (min n (length v)) v))) (sym is) ∙ decided r _ t

  pub cmp_undecided : (r : Ordering) → r ≡ slice_cmp nat_cmp a (take (min n (length v)) v) → is_ne r ≡ false
      → slice_cmp nat_cmp u v ≡ slice_cmp nat_cmp x (drop (min n (length v)) v)
  cmp_undecided r is t = cmp_by_parts ∙ ap (λ o. ordering_then o (slice_cmp nat_cmp x (drop (min n (length v)) v))) (sym is) ∙ undecided r _ t

-- The list `u` begins with the list `v`.
abbrev Begins : List ℕ → List ℕ → Type 0
Begins u v = take (length v) u ≡ v

-- whether a list begins with another is told by their first parts and by the rests after these
module _ (a x v : List ℕ) (n : ℕ) (own : n ≤ length a) (others : n ≤ length v) (reached : (n ≡ length a) ⊎ (n ≡ length v)) where
  begins_front : Begins (a ++ x) v → take n a ≡ take n v
  begins_front b = same_lists _ _ (search (rules, places)) (λ k d l. grind (arith, places, get_of b k d))

  begins_rest : take n a ≡ take n v → Begins (a ++ x) v → Begins x (drop n v)
  begins_rest same b = same_lists _ _ (grind (arith, places, ap length b, reached)) (λ k d l. grind (arith, places, reached, get_of b (n + k) d))

  begins_whole : take n a ≡ take n v → Begins x (drop n v) → Begins (a ++ x) v
  begins_whole same b = same_lists _ _ (grind (arith, places, ap length b, reached))
      (λ k d l. grind (arith, places, reached, get_of same k d, get_of b (k - n) d))

  begins_parts : take n a ≡ take n v → Begins (a ++ x) v ↔ Begins x (drop n v)
  begins_parts same = (begins_rest same, begins_whole same)

  begins_apart : ¬ (take n a ≡ take n v) → ¬ (Begins (a ++ x) v)
  begins_apart apart b = apart (begins_front b)

least_of : (n k l : ℕ) → n ≡ min k l → (n ≡ k) ⊎ (n ≡ l)
least_of n k l e = elim (cases_lt k l) [ inl h ↦ inl (omega (arith, e, h)) | inr h ↦ inr (omega (arith, e, h)) ]

-- the same of a list `u` that is a part `a` and the rest `x`, if the parts that are compared end with one of both
module _ (a x u v : List ℕ) (n : ℕ) (whole : a ++ x ≡ u) (least : n ≡ min (length a) (length v)) where
  pub begins_equal : take n a ≡ take n v → Begins u v ↔ Begins x (drop n v)
  begins_equal same = grind (arith, begins_parts, least_of)

  pub begins_unequal : ¬ (take n a ≡ take n v) → ¬ (Begins u v)
  begins_unequal apart = grind (arith, begins_apart, least_of)
