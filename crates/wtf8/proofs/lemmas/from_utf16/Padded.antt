-- Units and zeros after them as the lanes of a block.
use Rattle.wtf8.proofs.Common.{◌≡◌, ℕ, suc, ◌+◌, ◌-◌, ◌*◌, ◌/◌, ◌%◌, ◌<◌, ◌≤◌, List, [], ◌∷◌, ◌++◌, length, take, drop}
use Rattle.wtf8.proofs.Common.{replicate, Each1, refl, sym, ap, ◌∙◌, arith, subst, Fits, w16, pick_l_whole, zero}
use Rattle.wtf8.proofs.Common.{length-append, length-drop, length-replicate, append_assoc, take_all, take-append-drop}
use Rattle.std.proofs.lemmas.List.{drop-drop, replicate-append-replicate}
use Rattle.std.proofs.lemmas.Simd.{Each1-replicate}
use lib.Lanes.{chunk, pick_l, digits_l, number_l}
use Rattle.wtf8.proofs.lemmas.lanes.Padding.{of_below, of_length}

-- the bytes of units, the low one first
abbrev le_bytes : List ℕ → List ℕ
le_bytes [] = []
le_bytes (x ∷ u) = (x % 256) ∷ (x / 256) ∷ le_bytes u

abbrev pub twice : List ℕ → ℕ
twice [] = 0
twice (x ∷ u) = suc (suc (twice u))

to_le_bytes : (u : List ℕ) → Each1 (Fits w16) u → digits_l 256 (twice u) (number_l 65536 u) ≡ le_bytes u
to_le_bytes [] f = refl
to_le_bytes (x ∷ u) f =
    let y = x + 65536 * number_l 65536 u in
    let low : y % 256 ≡ x % 256 = omega arith in
    let high : y / 256 % 256 ≡ x / 256 = omega (arith, f.0.fits) in
    let rest : y / 256 / 256 ≡ number_l 65536 u = omega (arith, f.0.fits) in
    (λ i. low i ∷ high i ∷ digits_l 256 (twice u) (rest i)) ∙ ap (λ w. (x % 256) ∷ (x / 256) ∷ w) (to_le_bytes u f.1)

from_le_bytes : (u : List ℕ) → Each1 (Fits w16) u → digits_l 65536 (length u) (number_l 256 (le_bytes u)) ≡ u
from_le_bytes [] f = refl
from_le_bytes (x ∷ u) f =
    let y = x % 256 + 256 * (x / 256 + 256 * number_l 256 (le_bytes u)) in
    let unit : y % 65536 ≡ x = omega (arith, f.0.fits) in
    let rest : y / 65536 ≡ number_l 256 (le_bytes u) = omega (arith, f.0.fits) in
    (λ i. unit i ∷ digits_l 65536 (length u) (rest i)) ∙ ap (λ w. x ∷ w) (from_le_bytes u f.1)

abbrev eight : List ℕ → List ℕ
eight u = pick_l 0 u (0 ∷ 1 ∷ 2 ∷ 3 ∷ 4 ∷ 5 ∷ 6 ∷ 7 ∷ [])

-- two bytes for each unit that is left out
abbrev Drops : List ℕ → ℕ → Type 0
Drops u n = drop (2 * n) (le_bytes (eight u)) ++ replicate (2 * n) 0 ≡ le_bytes (drop n (eight u) ++ replicate n 0)

drops : (u : List ℕ) (n : ℕ) → n ≤ 8 → Drops u n
drops u n l = of_below (Drops u) 9 n (refl, (refl, (refl, (refl, (refl, (refl, (refl, (refl, (refl, tt))))))))) (omega arith)

fits : (n m : ℕ) (u : List ℕ) → Each1 (Fits w16) u → Each1 (Fits w16) (drop n u ++ replicate m 0)
fits zero m [] f = Each1-replicate (Fits w16) m 0 (record { fits = omega arith })
fits (suc n) m [] f = Each1-replicate (Fits w16) m 0 (record { fits = omega arith })
fits zero m (x ∷ u) f = (f.0, fits zero m u f.1)
fits (suc n) m (x ∷ u) f = fits n m u f.1

pub without_first : (u : List ℕ) (n : ℕ) → n ≤ 8 → length u ≡ 8 → Each1 (Fits w16) u
    → digits_l 65536 8 (number_l 256 (drop (2 * n) (digits_l 256 16 (number_l 65536 u)) ++ replicate (2 * n) 0)) ≡ drop n u ++ replicate n 0
without_first u n few long f =
    let all : eight u ≡ u = pick_l_whole 0 u 8 long in
    let g : Each1 (Fits w16) (eight u) = subst (Each1 (Fits w16)) (sym all) f in
    let v = drop n (eight u) ++ replicate n 0 in
    let m : length v ≡ 8 = omega (arith, few, length-append (drop n (eight u)) (replicate n 0), length-drop n (eight u), length-replicate {A = ℕ} n 0) in
    subst (λ u. digits_l 65536 8 (number_l 256 (drop (2 * n) (digits_l 256 16 (number_l 65536 u)) ++ replicate (2 * n) 0)) ≡ drop n u ++ replicate n 0) all
    (ap (λ w. digits_l 65536 8 (number_l 256 (drop (2 * n) w ++ replicate (2 * n) 0))) (to_le_bytes (eight u) g)
    ∙ ap (λ w. digits_l 65536 8 (number_l 256 w)) (drops u n few) ∙ ap (λ k. digits_l 65536 k (number_l 256 (le_bytes v))) (sym m)
    ∙ from_le_bytes v (fits n n (eight u) g))

-- the last eight units without the first `n` of them
last_lanes : (v : List ℕ) (n at : ℕ) → 8 ≤ length v → length v + n ≡ at + 8 → drop n (chunk (length v - 8) 8 v) ≡ drop at v
last_lanes v n at least same =
    let from = length v - 8 in
    ap (drop n) (take_all 8 (drop from v) (omega (arith, length-drop from v, least))) ∙ drop-drop n from v
    ∙ ap (λ k. drop k v) (omega (arith, least, same))

abbrev sixteen : List ℕ → List ℕ
sixteen u = pick_l 0 u (0 ∷ 1 ∷ 2 ∷ 3 ∷ 4 ∷ 5 ∷ 6 ∷ 7 ∷ 8 ∷ 9 ∷ 10 ∷ 11 ∷ 12 ∷ 13 ∷ 14 ∷ 15 ∷ [])

-- lanes that are the units from index `at` on and zeros are so as a block
as_block : (v lanes : List ℕ) (at : ℕ) → at ≤ length v → length v < at + 16 → lanes ≡ drop at v ++ replicate (16 - (length v - at)) 0
    → sixteen lanes ≡ drop at v ++ replicate (16 - (length v - at)) 0
as_block v lanes at within most all =
    let n = 16 - (length v - at) in
    pick_l_whole 0 lanes 16 (ap length all
    ∙ omega (arith, within, most, length-append (drop at v) (replicate n 0), length-drop at v, length-replicate {A = ℕ} n 0)) ∙ all

pub few_left : (v : List ℕ) (at : ℕ) → 8 ≤ length v → at ≤ length v → length v - at < 8
    → let n = 8 - (length v - at) in
    sixteen ((drop n (chunk (length v - 8) 8 v) ++ replicate n 0) ++ replicate 8 0) ≡ drop at v ++ replicate (16 - (length v - at)) 0
few_left v at least within few =
    let n = 8 - (length v - at) in
    as_block v _ at within (omega (arith, within, few)) (ap (λ u. (u ++ replicate n 0) ++ replicate 8 0)
    (last_lanes v n at least (omega (arith, least, within, few))) ∙ append_assoc (drop at v) (replicate n 0) (replicate 8 0)
    ∙ ap (λ u. drop at v ++ u) (replicate-append-replicate n 8 0 ∙ ap (λ k. replicate k 0) (omega (arith, within, few))))

pub many_left : (v : List ℕ) (at : ℕ) → 8 ≤ length v → at ≤ length v → 8 ≤ length v - at → length v < at + 16
    → let n = 16 - (length v - at) in
    sixteen (chunk at 8 v ++ (drop n (chunk (length v - 8) 8 v) ++ replicate n 0)) ≡ drop at v ++ replicate n 0
many_left v at least within many most =
    let n = 16 - (length v - at) in
    let after : drop n (chunk (length v - 8) 8 v) ≡ drop 8 (drop at v) =
    last_lanes v n (at + 8) least (omega (arith, least, within, many, most)) ∙ sym (drop-drop 8 at v) in
    as_block v _ at within most (ap (λ u. chunk at 8 v ++ (u ++ replicate n 0)) after
    ∙ sym (append_assoc (take 8 (drop at v)) (drop 8 (drop at v)) (replicate n 0))
    ∙ ap (λ u. u ++ replicate n 0) (take-append-drop 8 (drop at v)))

abbrev Quarters : List ℕ → Type 0
Quarters u = let n = 8 - length u in
    pick_l 0 ((take 4 u ++ replicate 4 0) ++ (drop n (take 4 (take (length u - (length u - 4)) (drop (length u - 4) u)) ++ replicate 4 0) ++ replicate n 0))
    (0 ∷ 1 ∷ 2 ∷ 3 ∷ 8 ∷ 9 ∷ 10 ∷ 11 ∷ 4 ∷ 5 ∷ 6 ∷ 7 ∷ 4 ∷ 5 ∷ 6 ∷ 7 ∷ []) ≡ u ++ replicate (16 - length u) 0

pub quarters : (u : List ℕ) → 4 ≤ length u → length u < 8 → Quarters u
quarters u least most =
    let of = of_length Quarters u in
    of_below (λ k. length u ≡ 4 + k → Quarters u) 4 (length u - 4) (of 7 refl, (of 6 refl, (of 5 refl, (of 4 refl, tt)))) (omega (arith, most))
    (omega (arith, least))
