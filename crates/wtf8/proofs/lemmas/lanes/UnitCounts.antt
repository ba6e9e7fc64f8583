-- Units counted in lanes: the sum of a block's lanes.
use Rattle.wtf8.proofs.Common.{false, replicate, nat_tests, sum_utf16_len, sum_by-cons, Each2-of, fold-sum, sum_bound, sum_fits, length-map}
use Rattle.wtf8.proofs.Common.{zero, Bool, true, cond, length, arith, lt-ltb, le-ltb, sel_l, bit_or, Each1, sum-zip2, Each2, fold_l, sum_l}
use Rattle.wtf8.proofs.Common.{◌≡◌, ℕ, suc, ◌+◌, ◌<◌, ◌≤◌, ltb, leb, List, [], ◌∷◌, map, w8, sym, ap, ◌∙◌, zip2, top, Fits, refl, w16}
use lib.Lanes.{Steps}
use Rattle.wtf8.specs.private.UnitsInBytes.{utf16_len}
use Rattle.wtf8.proofs.lemmas.lanes.AsciiFronts.{Each1-map_all}
use Rattle.wtf8.proofs.lemmas.lanes.SurrogateLanes.{lane_of_bool}

pub utf16_len-ascii : (b : ℕ) → b < 0x80 → utf16_len b ≡ 1
unfolding utf16_len
utf16_len-ascii b h = rw (lt-ltb b 0x80 h) refl

pub utf16_len-continuation : (b : ℕ) → 0x80 ≤ b → b < 0xC0 → utf16_len b ≡ 0
unfolding utf16_len
utf16_len-continuation b l h = rw (le-ltb b 0x80 l, lt-ltb b 0xC0 h) refl

pub utf16_len-lead_below_F0 : (b : ℕ) → 0xC0 ≤ b → b < 0xF0 → utf16_len b ≡ 1
unfolding utf16_len
utf16_len-lead_below_F0 b l h = rw (le-ltb b 0x80 (omega arith), le-ltb b 0xC0 l, lt-ltb b 0xF0 h) refl

pub utf16_len-lead_from_F0 : (b : ℕ) → 0xF0 ≤ b → utf16_len b ≡ 2
unfolding utf16_len
utf16_len-lead_from_F0 b l = rw (le-ltb b 0x80 (omega arith), le-ltb b 0xC0 (omega arith), le-ltb b 0xF0 l) refl

pub utf16_len_at_most_two : (b : ℕ) → utf16_len b ≤ 2
unfolding utf16_len
utf16_len_at_most_two b = grind (arith, nat_tests)

-- the lanes with an ASCII byte or a lead byte, and the lanes with a lead byte of four bytes
abbrev pub ascii_or_lead_lanes : ℕ → List ℕ → List Bool
ascii_or_lead_lanes n xs = map (top 7)
    (zip2 bit_or (zip2 (λ a b. lane_of_bool (ltb a b)) xs (replicate n 0x80)) (zip2 (λ a b. lane_of_bool (leb a b)) (replicate n 0xC0) xs))

abbrev pub four_byte_lead_lanes : ℕ → List ℕ → List Bool
four_byte_lead_lanes n xs = map (top 7) (zip2 (λ a b. lane_of_bool (leb a b)) (replicate n 0xF0) xs)

-- 1 in each set lane, else 0
abbrev pub ones_in_set_lanes : ℕ → List Bool → List ℕ
ones_in_set_lanes n ms = sel_l ms (replicate n 1) (replicate n 0)

abbrev pub unit_count_lanes : ℕ → List ℕ → List ℕ
unit_count_lanes n xs =
    zip2 (λ a b. a + b) (ones_in_set_lanes n (ascii_or_lead_lanes n xs)) (ones_in_set_lanes n (four_byte_lead_lanes n xs))

utf16_len-from_lanes : (x : ℕ) → cond (top 7 (bit_or (lane_of_bool (ltb x 0x80)) (lane_of_bool (leb 0xC0 x)))) 1 0 + cond
    (top 7 (lane_of_bool (leb 0xF0 x))) 1 0 ≡ utf16_len x
unfolding utf16_len
utf16_len-from_lanes x = grind (arith, nat_tests)

pub unit_count_lanes-utf16_len : (n : ℕ) (xs : List ℕ) → length xs ≡ n → unit_count_lanes n xs ≡ map utf16_len xs
unit_count_lanes-utf16_len n [] e = refl
unit_count_lanes-utf16_len zero (x ∷ xs) e = absurd (omega arith)
unit_count_lanes-utf16_len (suc n) (x ∷ xs) e = λ i. utf16_len-from_lanes x i ∷ unit_count_lanes-utf16_len n xs (omega arith) i

ones_at_most_one : (n : ℕ) (ms : List Bool) → Each1 (λ a. a ≤ 1) (ones_in_set_lanes n ms)
ones_at_most_one n [] = tt
ones_at_most_one zero (m ∷ ms) = tt
ones_at_most_one (suc n) (true ∷ ms) = (omega arith, ones_at_most_one n ms)
ones_at_most_one (suc n) (false ∷ ms) = (omega arith, ones_at_most_one n ms)

-- the sum of two such lanes fits a byte
pub lanes_fit : (n : ℕ) (ms ks : List Bool) → Each2 (λ a b. Fits w8 (a + b)) (ones_in_set_lanes n ms) (ones_in_set_lanes n ks)
lanes_fit n ms ks = grind (arith, Each2-of, ones_at_most_one)

utf16_lens_at_most_two : (xs : List ℕ) → Each1 (λ a. a ≤ 2) (map utf16_len xs)
utf16_lens_at_most_two = Each1-map_all (λ a. a ≤ 2) utf16_len utf16_len_at_most_two

sum_l-utf16_len : (xs : List ℕ) → sum_l (map utf16_len xs) ≡ sum_utf16_len xs
sum_l-utf16_len [] = refl
sum_l-utf16_len (x ∷ xs) = ap (λ n. utf16_len x + n) (sum_l-utf16_len xs) ∙ sym (sum_by-cons utf16_len x xs)

-- the sum of up to 64 lanes fits a byte
pub sum_fits_byte : (xs : List ℕ) → length xs ≤ 64 → Steps (λ s x. Fits w8 (s + x)) (λ s x. s + x) 0 (map utf16_len xs)
sum_fits_byte xs h =
    let bound = sum_bound 2 (map utf16_len xs) (utf16_lens_at_most_two xs) in
    sum_fits w8 0 (map utf16_len xs) (omega (arith, length-map xs utf16_len))

pub fold_l-utf16_len : (xs : List ℕ) → fold_l (λ s x. s + x) 0 (map utf16_len xs) ≡ sum_utf16_len xs
fold_l-utf16_len xs = omega (arith, fold-sum 0 (map utf16_len xs), sum_l-utf16_len xs)

-- lanes that are at most 253 can take the counts of one more block
pub lanes_fit_more : (most : ℕ) (lanes xs : List ℕ) → most + 2 ≤ 255 → Each1 (λ a. a ≤ most) lanes
    → Each2 (λ a b. Fits w8 (a + b)) lanes (map utf16_len xs)
lanes_fit_more most lanes xs few h = grind (arith, Each2-of, utf16_lens_at_most_two)

pub lanes_grow : (most : ℕ) (lanes xs : List ℕ) → Each1 (λ a. a ≤ most) lanes
    → Each1 (λ a. a ≤ most + 2) (zip2 (λ a b. a + b) lanes (map utf16_len xs))
lanes_grow most [] xs h = tt
lanes_grow most (a ∷ lanes) [] h = tt
lanes_grow most (a ∷ lanes) (x ∷ xs) h = (omega (arith, h.0, utf16_len_at_most_two x), lanes_grow most lanes xs h.1)

pub sums_grow : (lanes xs : List ℕ) → length lanes ≡ length xs
    → sum_l (zip2 (λ a b. a + b) lanes (map utf16_len xs)) ≡ sum_l lanes + sum_utf16_len xs
sums_grow lanes xs e = omega (arith, sum-zip2 lanes (map utf16_len xs) (e ∙ sym (length-map xs utf16_len)), sum_l-utf16_len xs)

-- the sum of 64 lanes fits 16 bits after eight blocks were added
pub sum_fits_two_bytes : (lanes : List ℕ) → length lanes ≡ 64 → Each1 (λ a. a ≤ 16) lanes
    → Steps (λ s x. Fits w16 (s + x)) (λ s x. s + x) 0 lanes
sum_fits_two_bytes lanes e h = sum_fits w16 0 lanes (omega (arith, sum_bound 16 lanes h, e))
