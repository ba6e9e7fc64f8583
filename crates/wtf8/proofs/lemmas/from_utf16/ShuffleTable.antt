-- The shuffle table, checked row by row: the lanes that a row picks, and the number of bytes.
use Rattle.wtf8.proofs.Common.{◌≡◌, ℕ, ◌+◌, ◌<◌, ◌&&◌, List, [], ◌∷◌, take, get_or, Each1, eqb, Bool, true, refl, sym, ap, ◌∙◌, arith}
use Rattle.wtf8.proofs.Common.{cases_lt, and_parts, eqb-true, nat_eq, pointwise}
use Rattle.std.proofs.lemmas.Bool.{ltb-true}
use Rattle.std.proofs.lemmas.List.Recursion.{and_at}
use Rattle.std.specs.Cmp.Lexicographic.{same_text}
use Rattle.std.specs.Int.RustNames.{count_ones}
use lib.Lanes.{all_below}
use Rattle.wtf8.specs.private.PackedUnits.{table_index, source_lanes, IsByteCount, IsPackingShuffle, IsPackedLen}
use Rattle.wtf8.specs.declared.from_utf16.shuffle_table.TheConstants.{SHUFFLES}

-- whether a test holds for each length, and for each four lengths
abbrev each_length : (ℕ → Bool) → Bool
each_length p = p 1 && (p 2 && p 3)

of_length : (p : ℕ → Bool) (a : ℕ) → IsByteCount a → each_length p ≡ true → p a ≡ true
of_length p a l e = grind (arith, cases_lt, and_parts)

abbrev each_four : (ℕ → ℕ → ℕ → ℕ → Bool) → Bool
each_four p = each_length (λ a. each_length (λ b. each_length (λ c. each_length (p a b c))))

of_four : (p : ℕ → ℕ → ℕ → ℕ → Bool) (a b c d : ℕ) → IsByteCount a → IsByteCount b → IsByteCount c → IsByteCount d → each_four p ≡ true
    → p a b c d ≡ true
of_four p a b c d i j k l e =
    of_length (p a b c) d l (of_length (λ c. each_length (p a b c)) c k (of_length (λ b. each_length (λ c. each_length (p a b c))) b j
    (of_length (λ a. each_length (λ b. each_length (λ c. each_length (p a b c)))) a i e)))

abbrev is_packing : List ℕ → ℕ → ℕ → ℕ → ℕ → Bool
is_packing none a b c d = pointwise nat_eq (take (a + b + c + d) (get_or SHUFFLES.now (table_index (a ∷ b ∷ c ∷ d ∷ [])) none))
    (source_lanes 0 (a ∷ b ∷ c ∷ d ∷ []))

pub IsPackingShuffle-table : (none : List ℕ) (number : ℕ) → IsPackingShuffle number (get_or SHUFFLES.now number none)
IsPackingShuffle-table none number a b c d i j k l e =
    ap (λ n. take (a + b + c + d) (get_or SHUFFLES.now n none)) e ∙ same_text _ _ (sym (of_four (is_packing none) a b c d i j k l refl))

-- whether each lane of each row is below 16
abbrev pub rows_below : List (List ℕ) → Bool
rows_below [] = true
rows_below (row ∷ rows) = all_below 16 row && rows_below rows

pub Each1-all_below : (xs : List ℕ) → all_below 16 xs ≡ true → Each1 (λ lane. lane < 16) xs
Each1-all_below [] e = tt
Each1-all_below (x ∷ xs) e = (ltb-true x 16 (and_parts _ _ e).0, Each1-all_below xs (and_parts _ _ e).1)

pub table_below_16 : (none : List ℕ) (number : ℕ) → number < 256 → Each1 (λ lane. lane < 16) (get_or SHUFFLES.now number none)
table_below_16 none number h =
    Each1-all_below (get_or SHUFFLES.now number none) (and_at rows_below (all_below 16) refl (λ _ _. refl) SHUFFLES.now number none h refl)

-- four plus the number of one bits in the index is the number of bytes
has_packed_len : ℕ → ℕ → ℕ → ℕ → Bool
unfolding count_ones
has_packed_len a b c d = eqb (4 + count_ones (table_index (a ∷ b ∷ c ∷ d ∷ []))) (a + b + c + d)

pub IsPackedLen-count_ones : (number : ℕ) → IsPackedLen number (4 + count_ones number)
unfolding count_ones has_packed_len
IsPackedLen-count_ones number a b c d i j k l e = ap (λ n. 4 + count_ones n) e ∙ eqb-true _ _ (of_four has_packed_len a b c d i j k l refl)
