-- ASCII lanes of a block.
use Rattle.wtf8.proofs.Common.{◌≡◌, ℕ, zero, suc, ◌+◌, ◌-◌, ◌*◌, ◌%◌, ◌^◌, ◌<◌, ◌≤◌, leb, le-leb, cond, List, [], ◌∷◌, map, length, take, get_or}
use Rattle.wtf8.proofs.Common.{replicate, refl, ap, ltb, lt-ltb, le-ltb, cases_lt, inl, inr, ◌∙◌, arith, subst, false, Each1, Option}
use Rattle.wtf8.proofs.Common.{None, Some, IfSome, tops_compared, zip2, mask_l, top, AreAscii, length-take, NoneIn, Each2, IsTrue, eqb, eqb-true}
use Rattle.wtf8.proofs.Common.{take_all, chunk, length-chunk, get_or-chunk, length-map, sel_l, min, Each1-from_get_or, IsFirstIn}
use Rattle.wtf8.proofs.Common.{IsFirstSet, IsSet, mask_l-mod, lt-leb, ◌/◌, drop, length-drop, sym, Bool, true, w16, take-take}
use native.Mathlib.Nat.{pow-suc, mul_comm, zero-div, div-one, div-div-eq-div-mul}
use Rattle.wtf8.specs.private.Search.{IsNonAsciiMask}
use Rattle.std.specs.Option.{IfNone}
use Rattle.std.proofs.lemmas.List.{get_or-map, get_or-take, take-map, drop-map, drop-take, drop-drop}
use Rattle.std.proofs.lemmas.Simd.{zip2_splat_left, Each1-get_or, Each2-splat, Each1-all}
use mir.Syntax.{Width}
use mir.Val.{bits, hbits}
use Rattle.wtf8.proofs.lemmas.lanes.Masks.{none_set}

map-saturated : (u : List ℕ) → map (leb 0x80) (map (λ n. min n 0xFF) u) ≡ map (leb 0x80) u
map-saturated [] = refl
map-saturated (x ∷ u) = λ i. lane i ∷ map-saturated u i
  where
    lane : leb 0x80 (min x 0xFF) ≡ leb 0x80 x
    lane = grind (arith, cases_lt, lt-leb, le-leb)

-- the lanes before the first set bit of the mask of non-ASCII lanes are ASCII
module _ (w : Width) (n : ℕ) (xs : List ℕ) (few : n ≤ 64) (long : length xs ≡ n) where
  abbrev non_ascii_mask : ℕ
  non_ascii_mask = mask_l (map (top (hbits w)) (zip2 (λ a b. cond (leb a b) (2 ^ bits w - 1) 0) (replicate n 0x80) xs)) % 2 ^ 64

  non_ascii_mask-mask_l : non_ascii_mask ≡ mask_l (map (leb 0x80) xs) % 2 ^ 64
  non_ascii_mask-mask_l = ap (λ ms. mask_l ms % 2 ^ 64) (tops_compared w leb (replicate n 0x80) xs ∙ zip2_splat_left leb 0x80 n xs long)

  -- of saturated units it is the mask of the units that are not ASCII
  pub unit_mask : (u : List ℕ) → xs ≡ map (λ n. min n 0xFF) u → IsNonAsciiMask non_ascii_mask u
  unit_mask u e = non_ascii_mask-mask_l ∙ mask_l-mod (map (leb 0x80) xs) 64 (omega (arith, few, long, length-map xs (leb 0x80)))
      ∙ ap mask_l (ap (map (leb 0x80)) e ∙ map-saturated u)

  AreAscii-take : (k : ℕ) → k ≤ n → NoneIn (IsSet (map (leb 0x80) xs)) 0 k → AreAscii (take k xs)
  AreAscii-take k le none = Each1-from_get_or (λ n. n < 0x80) (take k xs) 0 (λ i lt.
      let inside : i < k = omega (arith, lt, length-take k xs) in
      let lane = get_or-map (leb 0x80) xs i 0 false (omega (arith, inside, le, long)) in
      grind (arith, get_or-take, le-leb, cases_lt, none i (omega arith) inside, lane))

  all_ascii : NoneIn (IsSet (map (leb 0x80) xs)) 0 n → AreAscii xs
  all_ascii none = subst AreAscii (take_all n xs (omega (arith, long))) (AreAscii-take n (omega arith) none)

  pub ascii_before_bits : (m : ℕ) → m ≡ mask_l (map (leb 0x80) xs) % 2 ^ 64 → (r : Option ℕ) → IsFirstSet m r
      → IfNone r (AreAscii xs) × IfSome r (λ k. (k < n) × AreAscii (take k xs))
  ascii_before_bits m same r first = by r (first n (map (leb 0x80) xs) few (length-map xs (leb 0x80) ∙ long) same)
    where
      by : (r : Option ℕ) → IsFirstIn (IsSet (map (leb 0x80) xs)) 0 n r → IfNone r (AreAscii xs) × IfSome r (λ k. (k < n) × AreAscii (take k xs))
      by None none = (all_ascii none, tt)
      by (Some k) h = (tt, (h.1, AreAscii-take k (omega (arith, h.1)) h.0.none_between))

  pub ascii_before : (r : Option ℕ) → IsFirstSet non_ascii_mask r → IfNone r (AreAscii xs) × IfSome r (λ k. (k < n) × AreAscii (take k xs))
  ascii_before = ascii_before_bits non_ascii_mask non_ascii_mask-mask_l

  -- if the mask is 0, all lanes are ASCII
  pub ascii_if_none : IsTrue (eqb non_ascii_mask 0) → AreAscii xs
  ascii_if_none t = all_ascii (none_set non_ascii_mask n (map (leb 0x80) xs) few (length-map xs (leb 0x80) ∙ long) non_ascii_mask-mask_l (eqb-true _ 0 t))

half_mask : (m : Bool) (ms : List Bool) → mask_l (m ∷ ms) / 2 ≡ mask_l ms
half_mask true ms = omega arith
half_mask false ms = omega arith

-- a mask without its first bits is that of the lanes without the first ones
mask_l-drop : (k : ℕ) (ms : List Bool) → mask_l ms / 2 ^ k ≡ mask_l (drop k ms)
mask_l-drop zero ms = div-one (mask_l ms)
mask_l-drop (suc k) [] = zero-div (2 ^ suc k)
mask_l-drop (suc k) (m ∷ ms) = ap (λ n. mask_l (m ∷ ms) / n) (pow-suc 2 k ∙ mul_comm (2 ^ k) 2)
    ∙ sym (div-div-eq-div-mul (mask_l (m ∷ ms)) 2 (2 ^ k)) ∙ ap (λ n. n / 2 ^ k) (half_mask m ms) ∙ mask_l-drop k ms

-- the units from index `k` on before the next set bit of such a mask, or before its end, are ASCII
pub ascii_after : (bits k n : ℕ) (u : List ℕ) (r : Option ℕ) → length u ≡ k + n → k + n ≤ 64 → IsNonAsciiMask bits u → IsFirstSet (bits / 2 ^ k) r
    → IfNone r (AreAscii (drop k u)) × IfSome r (λ j. (j < n) × AreAscii (take j (drop k u)))
ascii_after bits k n u r long few mask first =
    let rest = drop k u in
    let same : bits / 2 ^ k ≡ mask_l (map (leb 0x80) rest) = ap (λ m. m / 2 ^ k) mask ∙ mask_l-drop k (map (leb 0x80) u)
    ∙ ap mask_l (drop-map (leb 0x80) k u) in
    let count : length rest ≡ n = omega (arith, long, length-drop k u) in
    ascii_before_bits w16 n rest (omega (arith, few)) count (bits / 2 ^ k)
    (same ∙ sym (mask_l-mod (map (leb 0x80) rest) 64 (omega (arith, few, count, length-map rest (leb 0x80))))) r first

-- ASCII units of a block that begins at index `first` of a list are those of the list
pub ascii_from : (v : List ℕ) (first at count : ℕ) → first ≤ at → at + count ≤ first + 32
    → AreAscii (take count (drop (at - first) (take 32 (drop first v)))) → AreAscii (take count (drop at v))
ascii_from v first at count least most own =
    let k = at - first in
    let split : 32 ≡ k + (32 - k) = omega (arith, least, most) in
    let there : drop k (drop first v) ≡ drop at v = drop-drop k first v ∙ ap (λ n. drop n v) (omega (arith, least)) in
    let same : take count (drop k (take 32 (drop first v))) ≡ take count (drop at v) = ap (λ n. take count (drop k (take n (drop first v)))) split
    ∙ ap (take count) (drop-take k (32 - k) (drop first v)) ∙ take-take count (32 - k) (drop k (drop first v)) (omega (arith, least, most))
    ∙ ap (take count) there in
    subst AreAscii same own

-- a byte in an ASCII block is ASCII
pub ascii_in_block : (n at : ℕ) (w : List ℕ) → at + n ≤ length w → AreAscii (chunk at n w) → (i : ℕ) → at ≤ i → i < at + n
    → get_or w i 0 < 0x80
ascii_in_block n at w room all i l m =
    let same : at + (i - at) ≡ i = omega (arith, l) in
    let low = Each1-get_or (λ b. b < 0x80) (chunk at n w) (i - at) 0 (omega (arith, length-chunk at n w room, l, m)) all in
    subst (λ k. get_or w k 0 < 0x80) same (subst (λ b. b < 0x80) (get_or-chunk at n w (i - at) 0 (omega (arith, l, m))) low)

-- division by `k` > 0 in all of sixteen lanes divides by 0 in none
pub by_all : (xs : List ℕ) (k : ℕ) → 0 < k → Each2 (λ (a b : ℕ). 0 < b) xs (replicate 16 k)
by_all xs k h = Each2-splat (λ (a b : ℕ). 0 < b) xs 16 k (Each1-all (λ (a : ℕ). 0 < k) (λ a. h) xs)

-- `f` of each lane satisfies `P` if `f` of each number does
pub Each1-map_all : (P : ℕ → Type 0) (f : ℕ → ℕ) → ((x : ℕ) → P (f x)) → (xs : List ℕ) → Each1 P (map f xs)
Each1-map_all P f h [] = tt
Each1-map_all P f h (x ∷ xs) = (h x, Each1-map_all P f h xs)

-- the first of lanes that satisfy `P`, and the others
pub Each1-take : (P : ℕ → Type 0) (k : ℕ) (u : List ℕ) → Each1 P u → Each1 P (take k u)
Each1-take P zero u e = tt
Each1-take P (suc k) [] e = tt
Each1-take P (suc k) (x ∷ u) e = (e.0, Each1-take P k u e.1)

pub Each1-drop : (P : ℕ → Type 0) (k : ℕ) (u : List ℕ) → Each1 P u → Each1 P (drop k u)
Each1-drop P zero u e = e
Each1-drop P (suc k) [] e = tt
Each1-drop P (suc k) (x ∷ u) e = Each1-drop P k u e.1

-- selecting each lane if it is below FF, else FF, saturates the lanes
pub saturated_lanes : (n : ℕ) (xs : List ℕ) → length xs ≡ n
    → sel_l (map (top 15) (zip2 (λ a b. cond (ltb a b) 0xFFFF 0) xs (replicate n 0xFF))) xs (replicate n 0xFF) ≡ map (λ n. min n 0xFF) xs
saturated_lanes zero [] e = refl
saturated_lanes (suc n) [] e = refl
saturated_lanes zero (x ∷ xs) e = absurd (omega arith)
saturated_lanes (suc n) (x ∷ xs) e = λ i. lane i ∷ saturated_lanes n xs (omega arith) i
  where
    lane : cond (top 15 (cond (ltb x 0xFF) 0xFFFF 0)) x 0xFF ≡ min x 0xFF
    lane = elim (cases_lt x 0xFF) [ inl l ↦ rw (lt-ltb x 0xFF l) (omega (arith, l)) | inr g ↦ rw (le-ltb x 0xFF g) (omega (arith, g)) ]

-- ASCII units are unchanged by saturation
pub saturated : (xs : List ℕ) → AreAscii xs → map (λ n. min n 0xFF) xs ≡ xs
saturated [] h = refl
saturated (x ∷ xs) h = let same : min x 0xFF ≡ x = omega (arith, h.0) in λ i. same i ∷ saturated xs h.1 i

-- units that are ASCII after saturation are ASCII
pub ascii_saturated : (xs : List ℕ) → AreAscii (map (λ n. min n 0xFF) xs) → AreAscii xs
ascii_saturated [] h = tt
ascii_saturated (x ∷ xs) h = (omega (arith, h.0), ascii_saturated xs h.1)

pub saturated_ascii : (k : ℕ) (xs : List ℕ) → AreAscii (take k xs) → take k (map (λ n. min n 0xFF) xs) ≡ take k xs
saturated_ascii k xs h = take-map (λ n. min n 0xFF) k xs ∙ saturated (take k xs) h

pub saturated_front : (k : ℕ) (xs : List ℕ) → AreAscii (take k (map (λ n. min n 0xFF) xs)) → take k (map (λ n. min n 0xFF) xs) ≡ take k xs
saturated_front k xs h = saturated_ascii k xs (ascii_saturated (take k xs) (subst AreAscii (take-map (λ n. min n 0xFF) k xs) h))

-- a list is ASCII if its first `n` members and its last `n`, which cover it, are
pub ascii_ends : (w : List ℕ) (n : ℕ) → n ≤ length w → length w ≤ 2 * n → AreAscii (chunk 0 n w) → AreAscii (chunk (length w - n) n w)
    → AreAscii w
ascii_ends w n some all front back = Each1-from_get_or (λ b. b < 0x80) w 0 (λ i l. elim (cases_lt i n) [
  | inl first ↦ ascii_in_block n 0 w (omega (arith, some)) front i (omega arith) (omega (arith, first))
  | inr last ↦ ascii_in_block n (length w - n) w (omega (arith, some)) back i (omega (arith, some, all, last)) (omega (arith, some, l))
])

-- two lists are ASCII if the greater of each two lanes is
pub ascii_greater : (xs ys : List ℕ) → length xs ≡ length ys
    → AreAscii (sel_l (map (top 15) (zip2 (λ a b. cond (ltb a b) 0xFFFF 0) xs ys)) ys xs) → AreAscii xs × AreAscii ys
ascii_greater [] [] e h = (tt, tt)
ascii_greater [] (y ∷ ys) e h = absurd (omega (arith, e))
ascii_greater (x ∷ xs) [] e h = absurd (omega (arith, e))
ascii_greater (x ∷ xs) (y ∷ ys) e h =
    let rest = ascii_greater xs ys (omega (arith, e)) h.1 in
    ((omega (arith, h.0, greater.0), rest.0), (omega (arith, h.0, greater.1), rest.1))
  where
    greater : (x ≤ cond (top 15 (cond (ltb x y) 0xFFFF 0)) y x) × (y ≤ cond (top 15 (cond (ltb x y) 0xFFFF 0)) y x)
    greater = grind (arith, cases_lt, lt-ltb, le-ltb)
