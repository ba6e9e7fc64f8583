-- The rows that pack words, and the words that they pack.
use Rattle.wtf8.proofs.Common.{◌≡◌, ℕ, zero, suc, ◌+◌, ◌-◌, ◌*◌, ◌/◌, ◌%◌, ◌^◌, ◌<◌, ◌≤◌, ◌&&◌, List, [], ◌∷◌, ◌++◌, Bool, true, false, length}
use Rattle.wtf8.proofs.Common.{take, drop, get_or, map, cond, refl, sym, ap, ◌∙◌, subst, arith, Each1, Fits, w8, swz_l, mask_l, and_parts}
use Rattle.wtf8.proofs.Common.{nat_eq, pointwise, cases_lt, inl, inr, lt-ltb, length-map, take-append-drop, append_assoc, length-drop}
use Rattle.std.proofs.lemmas.List.Recursion.{and_at}
use Rattle.std.proofs.lemmas.Simd.{ones-mask_l_cons, pick_l-range_with_len, mask_l-lt}
use Rattle.std.proofs.Math.Nat.{pow-suc}
use Rattle.std.specs.Cmp.Lexicographic.{same_text}
use Rattle.std.specs.Int.Count.{leading_unique, count_leading_zeros}
use Rattle.std.specs.Int.RustNames.{count_ones}
use Rattle.std.specs.Prelude.{nat_lt, if◌then◌else◌}
use lib.Count.{ones}
use lib.Lanes.{all_below, digits_l, number_l, pick_l}
use Rattle.wtf8.proofs.lemmas.lanes.AsciiFronts.{Each1-map_all}
use Rattle.wtf8.proofs.lemmas.from_utf16.Kernel.{swz_l-below_16}
use Rattle.wtf8.proofs.lemmas.from_utf16.ShuffleTable.{rows_below, Each1-all_below}
use Rattle.wtf8.specs.private.UnitEnds.{picked, words, word_lanes, IsPackingRow}
use Rattle.wtf8.specs.declared.units.packing_table.TheConstants.{PACKING_ROWS}

-- The table, checked row by row.

-- whether a test holds for each list of `k` truth values
each_set : ℕ → (List Bool → Bool) → Bool
each_set zero p = p []
each_set (suc k) p = each_set k (λ s. p (false ∷ s)) && each_set k (λ s. p (true ∷ s))

of_set : (k : ℕ) (p : List Bool → Bool) (s : List Bool) → length s ≡ k → each_set k p ≡ true → p s ≡ true
unfolding each_set
of_set zero p [] l e = e
of_set zero p (b ∷ s) l e = absurd (omega arith)
of_set (suc k) p [] l e = absurd (omega arith)
of_set (suc k) p (false ∷ s) l e = of_set k (λ s. p (false ∷ s)) s (omega arith) (and_parts _ _ e).0
of_set (suc k) p (true ∷ s) l e = of_set k (λ s. p (true ∷ s)) s (omega arith) (and_parts _ _ e).1

is_packing : List ℕ → List Bool → Bool
is_packing none s = pointwise nat_eq (take (length (word_lanes 0 s)) (get_or PACKING_ROWS.now (mask_l s) none)) (word_lanes 0 s)

pub IsPackingRow-table : (none : List ℕ) (number : ℕ) → IsPackingRow number (get_or PACKING_ROWS.now number none)
unfolding is_packing each_set
IsPackingRow-table none number s l e = ap (λ n. take (length (word_lanes 0 s)) (get_or PACKING_ROWS.now n none)) e
    ∙ same_text _ _ (sym (of_set 8 (is_packing none) s l refl))

pub packing_rows_below_16 : (none : List ℕ) (number : ℕ) → number < 256 → Each1 (λ lane. lane < 16) (get_or PACKING_ROWS.now number none)
packing_rows_below_16 none number h = Each1-all_below (get_or PACKING_ROWS.now number none)
    (and_at rows_below (all_below 16) refl (λ _ _. refl) PACKING_ROWS.now number none h refl)

-- The packed words.

pub digits_l-words : (n : ℕ) (w : List ℕ) → length w ≡ 2 * n → Each1 (λ b. b < 256) w → digits_l 65536 n (number_l 256 w) ≡ words w
digits_l-words zero [] l e = refl
digits_l-words zero (a ∷ w) l e = absurd (omega arith)
digits_l-words (suc n) [] l e = absurd (omega arith)
digits_l-words (suc n) (a ∷ []) l e = absurd (omega arith)
digits_l-words (suc n) (a ∷ b ∷ w) l e =
    let low : (a + 256 * (b + 256 * number_l 256 w)) % 65536 ≡ a + 256 * b = omega (arith, e.0, e.1.0) in
    let rest : (a + 256 * (b + 256 * number_l 256 w)) / 65536 ≡ number_l 256 w = omega (arith, e.0, e.1.0) in
    (λ i. low i ∷ digits_l 65536 n (rest i)) ∙ (λ i. (a + 256 * b) ∷ digits_l-words n w (omega arith) e.1.1 i)

get_or-words : (w : List ℕ) (i : ℕ) → 2 * i + 1 < length w → get_or (words w) i 0 ≡ get_or w (2 * i) 0 + 256 * get_or w (2 * i + 1) 0
get_or-words [] i l = absurd (omega arith)
get_or-words (a ∷ []) i l = absurd (omega arith)
get_or-words (a ∷ b ∷ w) zero l = refl
get_or-words (a ∷ b ∷ w) (suc i) l =
    let even : 2 * suc i ≡ suc (suc (2 * i)) = omega arith in
    let odd : 2 * suc i + 1 ≡ suc (suc (2 * i + 1)) = omega arith in
    get_or-words w i (omega arith) ∙ sym (λ j. get_or (a ∷ b ∷ w) (even j) 0 + 256 * get_or (a ∷ b ∷ w) (odd j) 0)

packed_words : (g : ℕ → ℕ) (k : ℕ) (s : List Bool) (row u : List ℕ) → take (length (word_lanes k s)) row ≡ word_lanes k s
    → length u ≡ length s → ((i : ℕ) → i < length s → get_or u i 0 ≡ g (2 * (k + i)) + 256 * g (2 * (k + i) + 1))
    → take (length (picked u s)) (words (map g row)) ≡ picked u s
packed_words g k [] row [] e l h = refl
packed_words g k [] row (n ∷ u) e l h = absurd (omega arith)
packed_words g k (b ∷ s) row [] e l h = absurd (omega arith)
packed_words g k (false ∷ s) row (n ∷ u) e l h =
    packed_words g (suc k) s row u e (omega arith) (λ i m. h (suc i) (omega arith) ∙ ap (λ j. g (2 * j) + 256 * g (2 * j + 1)) (omega arith))
packed_words g k (true ∷ s) [] (n ∷ u) e l h = absurd (omega (arith, ap length e))
packed_words g k (true ∷ s) (a ∷ []) (n ∷ u) e l h = absurd (omega (arith, ap length e))
packed_words g k (true ∷ s) (a ∷ b ∷ row) (n ∷ u) e l h =
    let low : a ≡ 2 * k = ap (λ w. get_or w 0 0) e in
    let high : b ≡ 2 * k + 1 = ap (λ w. get_or w 1 0) e in
    let here : k + 0 ≡ k = omega arith in
    let own : g a + 256 * g b ≡ n = (λ i. g (low i) + 256 * g (high i)) ∙ sym (h 0 (omega arith) ∙ ap (λ j. g (2 * j) + 256 * g (2 * j + 1)) here) in
    let rest = packed_words g (suc k) s row u (ap (drop 2) e) (omega arith)
    (λ i m. h (suc i) (omega arith) ∙ ap (λ j. g (2 * j) + 256 * g (2 * j + 1)) (omega arith)) in
    λ i. own i ∷ rest i

length-words : (n : ℕ) (w : List ℕ) → length w ≡ 2 * n → length (words w) ≡ n
length-words zero [] l = refl
length-words zero (a ∷ w) l = absurd (omega arith)
length-words (suc n) [] l = absurd (omega arith)
length-words (suc n) (a ∷ []) l = absurd (omega arith)
length-words (suc n) (a ∷ b ∷ w) l = ap suc (length-words n w (omega arith))

pub lane_below : (xs : List ℕ) (j : ℕ) → Each1 (Fits w8) xs → get_or xs j 0 < 256
lane_below [] j e = omega arith
lane_below (x ∷ xs) zero e = e.0.fits
lane_below (x ∷ xs) (suc j) e = lane_below xs j e.1

-- a row that packs the set lanes of eight words moves these words to the front
pub take-packed : (lanes row : List ℕ) (number : ℕ) → length lanes ≡ 16 → length row ≡ 16 → Each1 (Fits w8) lanes
    → Each1 (λ j. j < 16) row → IsPackingRow number row → (s : List Bool) → length s ≡ 8 → number ≡ mask_l s
    → take (length (picked (words lanes) s)) (digits_l 65536 8 (number_l 256 (swz_l w8 16 lanes 0 row))) ≡ picked (words lanes) s
take-packed lanes row number long wide fits within packs s eight e =
    let g = λ (j : ℕ). get_or lanes j 0 in
    let below : Each1 (λ b. b < 256) (map g row) = Each1-map_all (λ b. b < 256) g (λ j. lane_below lanes j fits) row in
    let count : length (map g row) ≡ 2 * 8 = length-map row g ∙ wide in
    let same = ap (λ w. digits_l 65536 8 (number_l 256 w)) (swz_l-below_16 lanes 0 row (omega (arith, wide)) within)
    ∙ digits_l-words 8 (map g row) count below in
    ap (take (length (picked (words lanes) s))) same ∙ packed_words g 0 s row (words lanes) (packs s eight e)
    (length-words 8 lanes (omega (arith, long)) ∙ sym eight)
    (λ i l. get_or-words lanes i (omega (arith, l, eight, long)) ∙ ap (λ j. g (2 * j) + 256 * g (2 * j + 1)) (omega arith))

pub length-picked : (u : List ℕ) (s : List Bool) → length (picked u s) ≤ length s
length-picked [] s = omega arith
length-picked (n ∷ u) [] = omega arith
length-picked (n ∷ u) (false ∷ s) = omega (arith, length-picked u s)
length-picked (n ∷ u) (true ∷ s) = omega (arith, length-picked u s)

count_ones-picked : (u : List ℕ) (s : List Bool) → length u ≡ length s → count_ones (mask_l s) ≡ length (picked u s)
unfolding count_ones
count_ones-picked [] [] l = refl
count_ones-picked [] (b ∷ s) l = absurd (omega arith)
count_ones-picked (n ∷ u) [] l = absurd (omega arith)
count_ones-picked (n ∷ u) (false ∷ s) l = omega (arith, ones-mask_l_cons false s, count_ones-picked u s (omega arith))
count_ones-picked (n ∷ u) (true ∷ s) l = omega (arith, ones-mask_l_cons true s, count_ones-picked u s (omega arith))

-- the number of ones in the mask of eight lanes is that of the words that they pick
pub ones-picked : (lanes : List ℕ) (s : List Bool) → length lanes ≡ 16 → length s ≡ 8 → ones (mask_l s) ≡ length (picked (words lanes) s)
unfolding count_ones
ones-picked lanes s long eight = count_ones-picked (words lanes) s (length-words 8 lanes (omega (arith, long)) ∙ sym eight)

-- The mask of set lanes: its lowest eight bits, the others, and its highest bit.

bit_bound : (b : Bool) → cond b 1 0 ≤ 1
bit_bound true = omega arith
bit_bound false = omega arith

abbrev eight_lanes : List Bool → List Bool
eight_lanes s = pick_l false s (0 ∷ 1 ∷ 2 ∷ 3 ∷ 4 ∷ 5 ∷ 6 ∷ 7 ∷ [])

-- the mask holds that of the first eight lanes, and above it that of the others
pub record EightLowest (s : List Bool) : Type 0 where
  pub low : mask_l s % 256 ≡ mask_l (take 8 s)
  pub rest : mask_l s / 256 ≡ mask_l (drop 8 s)

pub eight_lowest : (s : List Bool) → 8 ≤ length s → EightLowest s
eight_lowest s l =
    let front : eight_lanes s ≡ take 8 s = pick_l-range_with_len false s 0 8 l in
    let whole : eight_lanes s ++ drop 8 s ≡ s = ap (λ f. f ++ drop 8 s) front ∙ take-append-drop 8 s in
    let bit = λ (k : ℕ). bit_bound (get_or s k false) in
    let sum : mask_l (eight_lanes s ++ drop 8 s) ≡ mask_l (eight_lanes s) + 256 * mask_l (drop 8 s) = omega arith in
    let bound : mask_l (eight_lanes s) < 256 = omega (arith, bit 0, bit 1, bit 2, bit 3, bit 4, bit 5, bit 6, bit 7) in
    record {
      low = omega (arith, sum, bound, ap mask_l whole, ap mask_l front);
      rest = omega (arith, sum, bound, ap mask_l whole);
    }

-- the number of lanes up to the last that is set
abbrev pub whole_len : List Bool → ℕ
whole_len [] = 0
whole_len (b ∷ s) = if nat_lt 0 (whole_len s) then 1 + whole_len s else if b then 1 else 0

-- the highest bit of the mask is that of the last set lane
record MaskLength (m n k : ℕ) : Type 0 where
  pub above : m < 2 ^ n
  pub least : 0 < n → 2 ^ n ≤ 2 * m
  pub within : n ≤ k

double_pow : (n : ℕ) → 2 ^ (1 + n) ≡ 2 * 2 ^ n
double_pow n =
    let more : 1 + n ≡ suc n = omega arith in
    let doubled : 2 ^ suc n ≡ 2 * 2 ^ n = omega (arith, pow-suc 2 n) in
    ap (λ k. 2 ^ k) more ∙ doubled

no_more : (b : Bool) (s : List Bool) → whole_len s ≡ 0 → MaskLength (mask_l s) (whole_len s) (length s)
    → MaskLength (mask_l (b ∷ s)) (whole_len (b ∷ s)) (length (b ∷ s))
no_more false s e k = grind arith
no_more true s e k = grind arith

MaskLength-whole_len : (s : List Bool) → MaskLength (mask_l s) (whole_len s) (length s)
MaskLength-whole_len [] = record { above = omega arith; least = λ l. absurd (omega (arith, l)); within = omega arith }
MaskLength-whole_len (b ∷ s) =
    let more = MaskLength-whole_len s in
    let next : 2 ^ (1 + whole_len s) ≡ 2 * 2 ^ whole_len s = double_pow (whole_len s) in
    elim (cases_lt 0 (whole_len s)) as (λ _. MaskLength (mask_l (b ∷ s)) (whole_len (b ∷ s)) (length (b ∷ s))) [
      | inl l ↦
          let n : whole_len (b ∷ s) ≡ 1 + whole_len s = rw (lt-ltb 0 (whole_len s) l) refl in
          subst (λ n. MaskLength (mask_l (b ∷ s)) n (length (b ∷ s))) (sym n) (record {
            above = omega (arith, next, more.above, bit_bound b);
            least = λ _. omega (arith, next, more.least l, bit_bound b);
            within = omega (arith, more.within);
          })
      | inr g ↦ no_more b s (omega (arith, g)) more
    ]

MaskLength-least : {m n k : ℕ} → MaskLength m n k → 2 ^ n ≤ 2 * m + 1
MaskLength-least {m} {n} {k} h = elim (cases_lt 0 n) [
  | inl l ↦ omega (arith, h.least l)
  | inr g ↦ let none : n ≡ 0 = omega (arith, g) in rw none (omega arith)
]

pub whole_len-bound : (s : List Bool) → whole_len s ≤ length s
whole_len-bound s = (MaskLength-whole_len s).within

pub leading_zeros-mask_l : (s : List Bool) → length s ≤ 64 → 64 - count_leading_zeros 64 (mask_l s) ≡ whole_len s
leading_zeros-mask_l s l =
    let own = MaskLength-whole_len s in
    let unique = leading_unique 64 (mask_l s) (64 - whole_len s) (whole_len s) (omega (arith, own.within, l)) own.above (MaskLength-least own) in
    omega (arith, own.within, l, unique)

-- The numbers that lanes pick, eight by eight.

picked-nil : (u : List ℕ) → picked u [] ≡ []
picked-nil [] = refl
picked-nil (x ∷ u) = refl

picked-parts : (n : ℕ) (u : List ℕ) (s : List Bool) → picked u s ≡ picked (take n u) (take n s) ++ picked (drop n u) (drop n s)
picked-parts zero u s = refl
picked-parts (suc n) [] s = refl
picked-parts (suc n) (x ∷ u) [] = sym (picked-nil (drop n u))
picked-parts (suc n) (x ∷ u) (false ∷ s) = picked-parts n u s
picked-parts (suc n) (x ∷ u) (true ∷ s) = ap (λ v. x ∷ v) (picked-parts n u s)

-- the numbers of 32 lanes, then others, by eight lanes each
pub picked_by_eight : (u : List ℕ) (s : List Bool) (rest : List ℕ) → picked u s ++ rest ≡ picked (take 8 u) (take 8 s)
    ++ (picked (take 8 (drop 8 u)) (take 8 (drop 8 s)) ++ (picked (take 8 (drop 8 (drop 8 u))) (take 8 (drop 8 (drop 8 s)))
    ++ (picked (drop 8 (drop 8 (drop 8 u))) (drop 8 (drop 8 (drop 8 s))) ++ rest)))
picked_by_eight u s rest = ap (λ v. v ++ rest) (picked-parts 8 u s ∙ ap (λ v. picked (take 8 u) (take 8 s) ++ v)
    (picked-parts 8 (drop 8 u) (drop 8 s) ∙ ap (λ v. picked (take 8 (drop 8 u)) (take 8 (drop 8 s)) ++ v)
    (picked-parts 8 (drop 8 (drop 8 u)) (drop 8 (drop 8 s))))) ∙ simp append_assoc

-- the mask of 32 lanes holds four masks of eight
pub record FourMasks (s : List Bool) (m : ℕ) : Type 0 where
  pub first : m % 256 ≡ mask_l (take 8 s)
  pub second : m / 256 % 256 ≡ mask_l (take 8 (drop 8 s))
  pub third : m / 65536 % 256 ≡ mask_l (take 8 (drop 8 (drop 8 s)))
  pub fourth : m / 16777216 % 256 ≡ mask_l (drop 8 (drop 8 (drop 8 s)))

pub four_masks : (s : List Bool) (m : ℕ) → length s ≡ 32 → m ≡ mask_l s → FourMasks s m
four_masks s m l e =
    let a = eight_lowest s (omega (arith, l)) in
    let b = eight_lowest (drop 8 s) (omega (arith, l, length-drop 8 s)) in
    let d = eight_lowest (drop 8 (drop 8 s)) (omega (arith, l, length-drop 8 s, length-drop 8 (drop 8 s))) in
    let last = drop 8 (drop 8 (drop 8 s)) in
    let few : length last ≡ 8 = omega (arith, l, length-drop 8 s, length-drop 8 (drop 8 s), length-drop 8 (drop 8 (drop 8 s))) in
    let top : mask_l last < 256 = subst (λ n. mask_l last < 2 ^ n) few (mask_l-lt last) in
    record {
      first = omega (arith, e, a.low);
      second = omega (arith, e, a.rest, b.low);
      third = omega (arith, e, a.rest, b.rest, d.low);
      fourth = omega (arith, e, a.rest, b.rest, d.rest, top);
    }
