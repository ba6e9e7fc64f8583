-- Full blocks of two-, three- and four-byte code points, decoded by words of two bytes.
use Rattle.wtf8.proofs.Common.{◌≡◌, ℕ, zero, suc, ◌+◌, ◌*◌, ◌/◌, ◌%◌, ◌^◌, ◌<◌, ◌≤◌, List, [], ◌∷◌, ◌++◌, Bool, not, eqb, cond, map, length}
use Rattle.wtf8.proofs.Common.{take, drop, get_or, replicate, zip2, top, mask_l, refl, sym, ap, ◌∙◌, subst, arith, Each1, Fits, w8, w16}
use Rattle.wtf8.proofs.Common.{cases_Bool, eqb-true, inl, inr, mask_l-mod, tops_compared, length-zip2, length-replicate, get_or-drop, drop-drop}
use Rattle.wtf8.proofs.Common.{pick_l_whole, drop-take, take-add, unit_of_two, unit_of_three}
use Rattle.std.specs.List.{range_with_len}
use lib.Lanes.{pick_l, digits_l, number_l}
use Rattle.wtf8.specs.private.EncodedBytes.{map_run, lead_of_four, trail_of_four, pairs_of_fours}
use Rattle.wtf8.specs.private.UnitEnds.{words}
use Rattle.wtf8.proofs.lemmas.lanes.AsciiFronts.{Each1-drop, Each1-map_all}
use Rattle.wtf8.proofs.lemmas.units.PackedWords.{digits_l-words, lane_below}
use Rattle.wtf8.proofs.lemmas.units.UnitLanes.{of_32}

-- Whether all lanes have a quotient.

abbrev unequal_quotients : ℕ → ℕ → ℕ → List ℕ → List Bool
unequal_quotients d y n xs = zip2 (λ a b. not (eqb a b)) (zip2 (λ a b. a / b) xs (replicate n d)) (replicate n y)

none_unequal : (d y n : ℕ) (xs : List ℕ) → length xs ≡ n → mask_l (unequal_quotients d y n xs) ≡ 0 → Each1 (λ b. b / d ≡ y) xs
none_unequal d y n [] l e = tt
none_unequal d y zero (x ∷ xs) l e = absurd (omega arith)
none_unequal d y (suc n) (x ∷ xs) l e = elim (cases_Bool (eqb (x / d) y)) [
  | inl t ↦ (eqb-true (x / d) y t, none_unequal d y n xs (omega arith) (omega (arith, e)))
  | inr f ↦ absurd (omega (arith, rw f at e))
]

-- if the mask of the lanes that have another quotient is 0, all have this one
pub all_quotients : (d y n : ℕ) (xs : List ℕ) → n ≤ 64 → length xs ≡ n
    → mask_l (map (top 15) (zip2 (λ a b. cond (not (eqb a b)) 65535 0) (zip2 (λ a b. a / b) xs (replicate n d)) (replicate n y))) % 2 ^ 64 ≡ 0
    → Each1 (λ b. b / d ≡ y) xs
all_quotients d y n xs few l e =
    let quotients = zip2 (λ a b. a / b) xs (replicate n d) in
    let lanes = tops_compared w16 (λ a b. not (eqb a b)) quotients (replicate n y) in
    let count : length (unequal_quotients d y n xs) ≤ 64 = grind (arith, length-zip2, length-replicate) in
    none_unequal d y n xs l (sym (mask_l-mod (unequal_quotients d y n xs) 64 count) ∙ (sym (ap (λ ms. mask_l ms % 2 ^ 64) lanes) ∙ e))

-- Two-byte code points: a word is a lead byte and 256 times a continuation byte.

abbrev firsts_of_twos : ℕ → List ℕ → List ℕ
firsts_of_twos n u = zip2 (λ a b. a % b) u (replicate n 256)

firsts_of_twos-run : (n : ℕ) (v : List ℕ) → length v ≡ 2 * n → Each1 (λ b. b < 256) v
    → firsts_of_twos n (words v) ≡ map_run 2 (λ w. get_or w 0 0) n v
firsts_of_twos-run zero [] l e = refl
firsts_of_twos-run zero (a ∷ v) l e = absurd (omega arith)
firsts_of_twos-run (suc n) [] l e = absurd (omega arith)
firsts_of_twos-run (suc n) (a ∷ []) l e = absurd (omega arith)
firsts_of_twos-run (suc n) (a ∷ b ∷ v) l e =
    let here : (a + 256 * b) % 256 ≡ a = omega (arith, e.0) in
    λ i. here i ∷ firsts_of_twos-run n v (omega arith) e.1.1 i

abbrev units_of_twos : ℕ → List ℕ → List ℕ
units_of_twos n u = zip2 (λ a b. (a + b) % 65536)
    (zip2 (λ a b. a * b % 65536) (zip2 (λ a b. a % b) u (replicate n 32)) (replicate n 64))
    (zip2 (λ a b. a % b) (zip2 (λ a b. a / b) u (replicate n 256)) (replicate n 64))

units_of_twos-run : (n : ℕ) (v : List ℕ) → length v ≡ 2 * n → Each1 (λ b. b < 256) v → units_of_twos n (words v) ≡ map_run 2 unit_of_two n v
units_of_twos-run zero [] l e = refl
units_of_twos-run zero (a ∷ v) l e = absurd (omega arith)
units_of_twos-run (suc n) [] l e = absurd (omega arith)
units_of_twos-run (suc n) (a ∷ []) l e = absurd (omega arith)
units_of_twos-run (suc n) (a ∷ b ∷ v) l e =
    let here : ((a + 256 * b) % 32 * 64 % 65536 + (a + 256 * b) / 256 % 64) % 65536 ≡ a % 32 * 64 + b % 64 = omega (arith, e.0) in
    λ i. here i ∷ units_of_twos-run n v (omega arith) e.1.1 i

bytes_below : (v : List ℕ) → Each1 (Fits w8) v → Each1 (λ b. b < 256) v
bytes_below [] e = tt
bytes_below (x ∷ v) e = (e.0.fits, bytes_below v e.1)

pub words-twos : (v : List ℕ) → length v ≡ 32 → Each1 (Fits w8) v
    → (firsts_of_twos 16 (digits_l 65536 16 (number_l 256 v)) ≡ map_run 2 (λ w. get_or w 0 0) 16 v)
    × (units_of_twos 16 (digits_l 65536 16 (number_l 256 v)) ≡ map_run 2 unit_of_two 16 v)
words-twos v l f =
    let below = bytes_below v f in
    let own = digits_l-words 16 v (omega (arith, l)) below in (
      ap (firsts_of_twos 16) own ∙ firsts_of_twos-run 16 v (omega (arith, l)) below,
      ap (units_of_twos 16) own ∙ units_of_twos-run 16 v (omega (arith, l)) below,
    )

-- Three-byte code points: a word is a lead byte twice, another the third byte and 256 times the second.

abbrev first_word : List ℕ → ℕ
first_word w = get_or w 0 0 + 256 * get_or w 0 0

abbrev other_word : List ℕ → ℕ
other_word w = get_or w 2 0 + 256 * get_or w 1 0

abbrev lanes_of_16 : List ℕ → List ℕ
lanes_of_16 u = pick_l 0 u (range_with_len 0 16)

of_16 : (P : List ℕ → List ℕ → Type 0) (u v : List ℕ) → length u ≡ 16 → length v ≡ 16 → P (lanes_of_16 u) (lanes_of_16 v) → P u v
of_16 P u v l m p = subst (λ u. P u v) (pick_l_whole 0 u 16 l) (subst (P (lanes_of_16 u)) (pick_l_whole 0 v 16 m) p)

abbrev first_lanes : List ℕ
first_lanes = 0 ∷ 0 ∷ 3 ∷ 3 ∷ 6 ∷ 6 ∷ 9 ∷ 9 ∷ 12 ∷ 12 ∷ 15 ∷ 15 ∷ 26 ∷ 26 ∷ 29 ∷ 29 ∷ []

abbrev other_lanes : List ℕ
other_lanes = 2 ∷ 1 ∷ 5 ∷ 4 ∷ 8 ∷ 7 ∷ 11 ∷ 10 ∷ 14 ∷ 13 ∷ 25 ∷ 24 ∷ 28 ∷ 27 ∷ 31 ∷ 30 ∷ []

abbrev firsts_picked : List ℕ → List ℕ → List ℕ
firsts_picked u v = pick_l 0 (u ++ v) first_lanes

abbrev others_picked : List ℕ → List ℕ → List ℕ
others_picked u v = pick_l 0 (u ++ v) other_lanes

words-firsts : (u v : List ℕ) → length u ≡ 16 → length v ≡ 16 → words (firsts_picked u v) ≡ map_run 3 first_word 8 (u ++ drop 8 v)
words-firsts u v l m = of_16 (λ u v. words (firsts_picked u v) ≡ map_run 3 first_word 8 (u ++ drop 8 v)) u v l m refl

words-others : (u v : List ℕ) → length u ≡ 16 → length v ≡ 16 → words (others_picked u v) ≡ map_run 3 other_word 8 (u ++ drop 8 v)
words-others u v l m = of_16 (λ u v. words (others_picked u v) ≡ map_run 3 other_word 8 (u ++ drop 8 v)) u v l m refl

-- each lane of two vectors is a byte
get_or_below : (u v : List ℕ) → Each1 (Fits w8) u → Each1 (Fits w8) v → (j : ℕ) → get_or (u ++ v) j 0 < 256
get_or_below [] v e f j = lane_below v j f
get_or_below (x ∷ u) v e f zero = e.0.fits
get_or_below (x ∷ u) v e f (suc j) = get_or_below u v e.1 f j

abbrev AreBytes : List ℕ → Type 0
AreBytes v = (j : ℕ) → get_or v j 0 < 256

AreBytes-drop : (n : ℕ) (v : List ℕ) → AreBytes v → AreBytes (drop n v)
AreBytes-drop n v h j = rw (get_or-drop n v j 0) (h (n + j))

abbrev units_of_threes : ℕ → List ℕ → List ℕ → List ℕ
units_of_threes n firsts others = zip2 (λ a b. (a + b) % 65536) (zip2 (λ a b. (a + b) % 65536)
    (zip2 (λ a b. a * b % 65536) firsts (replicate n 4096))
    (zip2 (λ a b. a * b % 65536) (zip2 (λ a b. a % b) (zip2 (λ a b. a / b) others (replicate n 256)) (replicate n 64)) (replicate n 64)))
    (zip2 (λ a b. a % b) others (replicate n 64))

unit_lane : (a b d : ℕ) → a < 256 → b < 256 → d < 256
    → (((a + 256 * a) * 4096 % 65536 + (d + 256 * b) / 256 % 64 * 64 % 65536) % 65536 + (d + 256 * b) % 64) % 65536
    ≡ (a % 16 * 64 + b % 64) * 64 + d % 64
unit_lane a b d l m n = omega arith

units_of_threes-run : (k : ℕ) (v : List ℕ) → AreBytes v
    → units_of_threes k (map_run 3 first_word k v) (map_run 3 other_word k v) ≡ map_run 3 unit_of_three k v
units_of_threes-run zero v h = refl
units_of_threes-run (suc k) v h =
    let here = unit_lane (get_or v 0 0) (get_or v 1 0) (get_or v 2 0) (h 0) (h 1) (h 2) in
    λ i. here i ∷ units_of_threes-run k (drop 3 v) (AreBytes-drop 3 v h) i

firsts-run : (k : ℕ) (v : List ℕ) → map_run 3 first_word k v ≡ map_run 3 (λ w. 257 * get_or w 0 0) k v
firsts-run zero v = refl
firsts-run (suc k) v = let here : first_word v ≡ 257 * get_or v 0 0 = omega arith in λ i. here i ∷ firsts-run k (drop 3 v) i

picked_below : (u v js : List ℕ) → Each1 (Fits w8) u → Each1 (Fits w8) v → Each1 (λ b. b < 256) (pick_l 0 (u ++ v) js)
picked_below u v js e f = Each1-map_all (λ b. b < 256) (λ j. get_or (u ++ v) j 0) (get_or_below u v e f) js

pub words-threes : (u v : List ℕ) → length u ≡ 16 → length v ≡ 16 → Each1 (Fits w8) u → Each1 (Fits w8) v
    → let firsts = digits_l 65536 8 (number_l 256 (firsts_picked u v)) in
    let others = digits_l 65536 8 (number_l 256 (others_picked u v)) in
    (firsts ≡ map_run 3 (λ w. 257 * get_or w 0 0) 8 (u ++ drop 8 v))
    × (units_of_threes 8 firsts others ≡ map_run 3 unit_of_three 8 (u ++ drop 8 v))
words-threes u v l m e f =
    let firsts = digits_l-words 8 (firsts_picked u v) refl (picked_below u v first_lanes e f) ∙ words-firsts u v l m in
    let others = digits_l-words 8 (others_picked u v) refl (picked_below u v other_lanes e f) ∙ words-others u v l m in (
      firsts ∙ firsts-run 8 (u ++ drop 8 v),
      (λ i. units_of_threes 8 (firsts i) (others i))
          ∙ units_of_threes-run 8 (u ++ drop 8 v) (get_or_below u (drop 8 v) e (Each1-drop (Fits w8) 8 v f)),
    )

-- lead bytes that are doubled
pub undoubled : (k : ℕ) (v : List ℕ) → AreBytes v → Each1 (λ b. b / 4096 ≡ 14) (map_run 3 (λ w. 257 * get_or w 0 0) k v)
    → Each1 (λ b. b / 16 ≡ 14) (map_run 3 (λ w. get_or w 0 0) k v)
undoubled zero v h e = tt
undoubled (suc k) v h e = (omega (arith, h 0, e.0), undoubled k (drop 3 v) (AreBytes-drop 3 v h) e.1)

-- the two vectors of a block are its 24 bytes
pub joined_vectors : (w : List ℕ) → take 16 w ++ drop 8 (take 16 (drop 8 w)) ≡ take 24 w
joined_vectors w = ap (λ v. take 16 w ++ v) (drop-take 8 8 (drop 8 w) ∙ ap (take 8) (drop-drop 8 8 w)) ∙ sym (take-add 16 8 w)

pub AreBytes-from_fits : (v : List ℕ) → Each1 (Fits w8) v → AreBytes v
AreBytes-from_fits v e j = lane_below v j e

-- Four-byte code points: a word is the first byte and 256 times the second, another the third and 256 times the fourth.

abbrev front_word : List ℕ → ℕ
front_word w = get_or w 0 0 + 256 * get_or w 1 0

abbrev back_word : List ℕ → ℕ
back_word w = get_or w 2 0 + 256 * get_or w 3 0

abbrev front_lanes : List ℕ
front_lanes = 0 ∷ 1 ∷ 4 ∷ 5 ∷ 8 ∷ 9 ∷ 12 ∷ 13 ∷ 16 ∷ 17 ∷ 20 ∷ 21 ∷ 24 ∷ 25 ∷ 28 ∷ 29 ∷ []

abbrev back_lanes : List ℕ
back_lanes = 2 ∷ 3 ∷ 6 ∷ 7 ∷ 10 ∷ 11 ∷ 14 ∷ 15 ∷ 18 ∷ 19 ∷ 22 ∷ 23 ∷ 26 ∷ 27 ∷ 30 ∷ 31 ∷ []

abbrev lanes_by_turns : List ℕ
lanes_by_turns = 0 ∷ 8 ∷ 1 ∷ 9 ∷ 2 ∷ 10 ∷ 3 ∷ 11 ∷ 4 ∷ 12 ∷ 5 ∷ 13 ∷ 6 ∷ 14 ∷ 7 ∷ 15 ∷ []

abbrev picked_twice : List ℕ → List ℕ → List ℕ
picked_twice v js = pick_l 0 (v ++ v) js

words-fronts : (v : List ℕ) → length v ≡ 32 → words (picked_twice v front_lanes) ≡ map_run 4 front_word 8 v
words-fronts v l = of_32 (λ v. words (picked_twice v front_lanes) ≡ map_run 4 front_word 8 v) v l refl

words-backs : (v : List ℕ) → length v ≡ 32 → words (picked_twice v back_lanes) ≡ map_run 4 back_word 8 v
words-backs v l = of_32 (λ v. words (picked_twice v back_lanes) ≡ map_run 4 back_word 8 v) v l refl

abbrev leads_of_fours : ℕ → List ℕ → List ℕ → List ℕ
leads_of_fours n fronts backs = zip2 (λ a b. (a + b) % 65536) (zip2 (λ a b. (a + b) % 65536) (zip2 (λ a b. (a + b) % 65536)
    (zip2 (λ a b. a * b % 65536) (zip2 (λ a b. a % b) fronts (replicate n 8)) (replicate n 256))
    (zip2 (λ a b. a * b % 65536) (zip2 (λ a b. a % b) (zip2 (λ a b. a / b) fronts (replicate n 256)) (replicate n 64)) (replicate n 4)))
    (zip2 (λ a b. a % b) (zip2 (λ a b. a / b) backs (replicate n 16)) (replicate n 4)))
    (replicate n 0xD7C0)

lead_lane : (a b d e : ℕ) → a < 256 → b < 256 → d < 256 → e < 256
    → ((((a + 256 * b) % 8 * 256 % 65536 + (a + 256 * b) / 256 % 64 * 4 % 65536) % 65536 + (d + 256 * e) / 16 % 4) % 65536 + 0xD7C0) % 65536
    ≡ 0xD7C0 + (((a % 8 * 64 + b % 64) * 64 + d % 64) * 64 + e % 64) / 0x400
lead_lane a b d e l m n o = omega arith

leads_of_fours-run : (k : ℕ) (v : List ℕ) → AreBytes v
    → leads_of_fours k (map_run 4 front_word k v) (map_run 4 back_word k v) ≡ map_run 4 lead_of_four k v
leads_of_fours-run zero v h = refl
leads_of_fours-run (suc k) v h =
    let here = lead_lane (get_or v 0 0) (get_or v 1 0) (get_or v 2 0) (get_or v 3 0) (h 0) (h 1) (h 2) (h 3) in
    λ i. here i ∷ leads_of_fours-run k (drop 4 v) (AreBytes-drop 4 v h) i

abbrev trails_of_fours : ℕ → List ℕ → List ℕ
trails_of_fours n backs = zip2 (λ a b. (a + b) % 65536) (zip2 (λ a b. (a + b) % 65536)
    (zip2 (λ a b. a * b % 65536) (zip2 (λ a b. a % b) backs (replicate n 16)) (replicate n 64))
    (zip2 (λ a b. a % b) (zip2 (λ a b. a / b) backs (replicate n 256)) (replicate n 64)))
    (replicate n 0xDC00)

trail_lane : (a b d e : ℕ) → d < 256 → e < 256
    → (((d + 256 * e) % 16 * 64 % 65536 + (d + 256 * e) / 256 % 64) % 65536 + 0xDC00) % 65536
    ≡ 0xDC00 + (((a % 8 * 64 + b % 64) * 64 + d % 64) * 64 + e % 64) % 0x400
trail_lane a b d e n o = omega arith

trails_of_fours-run : (k : ℕ) (v : List ℕ) → AreBytes v → trails_of_fours k (map_run 4 back_word k v) ≡ map_run 4 trail_of_four k v
trails_of_fours-run zero v h = refl
trails_of_fours-run (suc k) v h =
    let here = trail_lane (get_or v 0 0) (get_or v 1 0) (get_or v 2 0) (get_or v 3 0) (h 2) (h 3) in
    λ i. here i ∷ trails_of_fours-run k (drop 4 v) (AreBytes-drop 4 v h) i

firsts_of_fours-run : (k : ℕ) (v : List ℕ) → AreBytes v → firsts_of_twos k (map_run 4 front_word k v) ≡ map_run 4 (λ w. get_or w 0 0) k v
firsts_of_fours-run zero v h = refl
firsts_of_fours-run (suc k) v h =
    let here : front_word v % 256 ≡ get_or v 0 0 = omega (arith, h 0) in
    λ i. here i ∷ firsts_of_fours-run k (drop 4 v) (AreBytes-drop 4 v h) i

pub words-fours : (v : List ℕ) → length v ≡ 32 → Each1 (Fits w8) v
    → let fronts = digits_l 65536 8 (number_l 256 (picked_twice v front_lanes)) in
    let backs = digits_l 65536 8 (number_l 256 (picked_twice v back_lanes)) in
    (firsts_of_twos 8 fronts ≡ map_run 4 (λ w. get_or w 0 0) 8 v)
    × (pick_l 0 (leads_of_fours 8 fronts backs ++ trails_of_fours 8 backs) lanes_by_turns ≡ pairs_of_fours 8 v)
words-fours v l e =
    let fronts = digits_l-words 8 (picked_twice v front_lanes) refl (picked_below v v front_lanes e e) ∙ words-fronts v l in
    let backs = digits_l-words 8 (picked_twice v back_lanes) refl (picked_below v v back_lanes e e) ∙ words-backs v l in
    let below = AreBytes-from_fits v e in
    let leads = (λ i. leads_of_fours 8 (fronts i) (backs i)) ∙ leads_of_fours-run 8 v below in
    let trails = ap (trails_of_fours 8) backs ∙ trails_of_fours-run 8 v below in (
      ap (firsts_of_twos 8) fronts ∙ firsts_of_fours-run 8 v below,
      λ i. pick_l 0 (leads i ++ trails i) lanes_by_turns,
    )
