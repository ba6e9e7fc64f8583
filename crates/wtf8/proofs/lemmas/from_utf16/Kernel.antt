-- Blocks of units of mixed kinds: three candidate bytes of each unit in lanes, and the shuffle that packs them.
use Rattle.wtf8.proofs.Common.{rules, ◌≡◌, ℕ, suc, ◌+◌, ◌-◌, ◌*◌, ◌/◌, ◌%◌, ◌^◌, ◌<◌, ◌≤◌, List, [], ◌∷◌, ◌++◌, length, take, drop, get_or, map}
use Rattle.wtf8.proofs.Common.{replicate, zip2, Each1, cond, ltb, leb, eqb, top, Bool, false, length-append, false≢true, refl, sym}
use Rattle.wtf8.proofs.Common.{ap, ◌∙◌, arith, lt-ltb, le-ltb, subst, cases_lt, cases_Bool, inl, inr, Fits, append-nil, append_assoc}
use Rattle.wtf8.proofs.Common.{map-append, ◌&&◌, mask_l-mod, eq-eqb, pick_l_whole, IsSurrogate, sel_l, mask_l, w8, w16, bit_and}
use Rattle.wtf8.proofs.Common.{bit_or, nat_tests, swz_l, IsLead, IsUnit, length-take-le, take-take, AreScalarUnits, length-take, length-drop, take_all}
use lib.Lanes.{pick_l, digits_l, number_l}
use Rattle.std.specs.Prelude.{nat_lt, if◌then◌else◌, bit_xor}
use Rattle.std.proofs.lemmas.List.{take-map, drop-map}
use Rattle.std.proofs.lemmas.Simd.{get_or-swz_l_below}
use Rattle.wtf8.specs.private.PackedUnits.{first_byte, second_byte, scalar_last_byte, last_byte, scalar_head, three_byte_flag}
use Rattle.wtf8.specs.private.PackedUnits.{three_byte_bit, byte_count, byte_lanes, units_table_index, source_lanes}
use Rattle.wtf8.specs.private.PackedUnits.{IsByteCount, packed_unit, packed_units, tagged, tagged_units, tagged_block, AreUnitBytes}
use Rattle.wtf8.proofs.lemmas.from_utf16.Padded.{twice}
use Rattle.wtf8.proofs.lemmas.from_utf16.PackedUnits.{packed_unit-lead, IsTag, IsTag-tagged, tagged-scalar, tagged-lead_before_trail, length-tagged_units}
use Rattle.std.proofs.Math.Seq.{take-append_seam}

-- Sixteen lanes as an explicit list, and facts that hold lane by lane.

abbrev sixteen_lanes : List ℕ → List ℕ
sixteen_lanes u = pick_l 0 u (0 ∷ 1 ∷ 2 ∷ 3 ∷ 4 ∷ 5 ∷ 6 ∷ 7 ∷ 8 ∷ 9 ∷ 10 ∷ 11 ∷ 12 ∷ 13 ∷ 14 ∷ 15 ∷ [])

pub of_sixteen : (P : List ℕ → Type 0) (u : List ℕ) → length u ≡ 16 → P (sixteen_lanes u) → P u
of_sixteen P u l p = subst P (pick_l_whole 0 u 16 l) p

map-same : (P : ℕ → Type 0) (f g : ℕ → ℕ) → ((x : ℕ) → P x → f x ≡ g x) → (u : List ℕ) → Each1 P u → map f u ≡ map g u
map-same P f g h [] e = refl
map-same P f g h (x ∷ u) e = λ i. h x e.0 i ∷ map-same P f g h u e.1 i

-- lanes that are `f` of each unit are also `g` of it, if `f` and `g` are the same below 0x10000
map_lanes : {f g : ℕ → ℕ} (lanes : List ℕ → List ℕ) → ((x : ℕ) → Fits w16 x → f x ≡ g x)
    → ((u : List ℕ) → lanes (sixteen_lanes u) ≡ map f (sixteen_lanes u)) → (u : List ℕ) → length u ≡ 16 → Each1 (Fits w16) u → lanes u ≡ map g u
map_lanes {f} {g} lanes h e u l fits = of_sixteen (λ u. Each1 (Fits w16) u → lanes u ≡ map g u) u l
    (λ s. e u ∙ map-same (Fits w16) f g h (sixteen_lanes u) s) fits

pub length-tagged_block : (u : List ℕ) → length u ≡ 16 → length (tagged_block u) ≡ 16
length-tagged_block u l = length-tagged_units 0 u 0xDC00 ∙ l

abbrev select_by : (ℕ → ℕ → Bool) → ℕ → List ℕ → List ℕ → List ℕ → List ℕ
select_by f k u a b = sel_l (map (top 15) (zip2 (λ x y. cond (f x y) 0xFFFF 0) u (replicate 16 k))) a b

abbrev lanes_add : List ℕ → List ℕ → List ℕ
lanes_add = zip2 (λ a b. (a + b) % 65536)

abbrev lanes_div : ℕ → List ℕ → List ℕ
lanes_div k u = zip2 (λ a b. a / b) u (replicate 16 k)

abbrev lanes_rem : ℕ → List ℕ → List ℕ
lanes_rem k u = zip2 (λ a b. a % b) u (replicate 16 k)

abbrev lanes_mul : ℕ → List ℕ → List ℕ
lanes_mul k u = zip2 (λ a b. a * b % 65536) u (replicate 16 k)

-- The three candidate bytes of scalar values.

abbrev scalar_head_lanes : List ℕ → List ℕ
scalar_head_lanes u = lanes_add (lanes_add (lanes_add (replicate 16 0x80E0) (lanes_div 4096 u))
    (lanes_mul 256 (lanes_rem 64 (lanes_div 64 u)))) (select_by ltb 0x800 u (replicate 16 0x4000) (replicate 16 0))

pub scalar_head_lanes-map : (u : List ℕ) → length u ≡ 16 → Each1 (Fits w16) u → scalar_head_lanes u ≡ map scalar_head u
scalar_head_lanes-map = map_lanes scalar_head_lanes lane (λ u. refl)
  where
    lane : (x : ℕ) → Fits w16 x → (((0x80E0 + x / 4096) % 65536 + x / 64 % 64 * 256 % 65536) % 65536
        + cond (top 15 (cond (ltb x 0x800) 0xFFFF 0)) 0x4000 0) % 65536 ≡ scalar_head x
    lane x h = grind (arith, cases_lt, lt-ltb, le-ltb)

abbrev scalar_last_lanes : List ℕ → List ℕ
scalar_last_lanes u =
    let low = lanes_add (replicate 16 0x80) (lanes_rem 64 u) in
    sel_l (map (top 15) (zip2 (λ a b. cond (ltb a b) 0xFFFF 0) u low)) u low

pub scalar_last_lanes-map : (u : List ℕ) → length u ≡ 16 → Each1 (Fits w16) u → scalar_last_lanes u ≡ map scalar_last_byte u
scalar_last_lanes-map = map_lanes scalar_last_lanes lane (λ u. refl)
  where
    lane : (x : ℕ) → Fits w16 x → let low = (0x80 + x % 64) % 65536 in cond (top 15 (cond (ltb x low) 0xFFFF 0)) x low ≡ scalar_last_byte x
    lane x h = search (rules, arith, cases_lt, lt-ltb, le-ltb)

pub scalar_flag_lanes-map : (u : List ℕ) → length u ≡ 16 → Each1 (Fits w16) u
    → select_by ltb 0x800 u (replicate 16 0) (replicate 16 0x8000) ≡ map three_byte_flag u
scalar_flag_lanes-map = map_lanes (λ u. select_by ltb 0x800 u (replicate 16 0) (replicate 16 0x8000)) lane (λ u. refl)
  where
    lane : (x : ℕ) → Fits w16 x → cond (top 15 (cond (ltb x 0x800) 0xFFFF 0)) 0 0x8000 ≡ three_byte_flag x
    lane x h = elim (cases_lt x 0x800) [ inl l ↦ rw (lt-ltb x 0x800 l) refl | inr g ↦ rw (le-ltb x 0x800 g) refl ]

-- Units that may be surrogates: what is computed from the unit `x` and its neighbours is computed of `x` tagged as `t`.

-- all bits of a lane if the tagged unit is the lead of a pair, or the trail of one, else none
abbrev lead_mask : ℕ → ℕ
lead_mask n = if nat_lt n 0xD800 then 0 else if nat_lt n 0xDC00 then 0xFFFF else 0

abbrev trail_mask : ℕ → ℕ
trail_mask n = if nat_lt n 0xDC00 then 0 else if nat_lt n 0xE000 then 0xFFFF else 0

abbrev both_kinds : ℕ → ℕ → ℕ → ℕ → ℕ
both_kinds x j n k = bit_and (cond (eqb (x / 1024) j) 0xFFFF 0) (cond (eqb (n / 1024) k) 0xFFFF 0)

pub and_lanes : (s t : Bool) → bit_and (cond s 0xFFFF 0) (cond t 0xFFFF 0) ≡ cond (s && t) 0xFFFF 0
and_lanes s t = grind (arith)

both_kinds-lead : (b x n : ℕ) → both_kinds x 54 n 55 ≡ lead_mask (tagged b x n)
both_kinds-lead b x n = and_lanes (eqb (x / 1024) 54) (eqb (n / 1024) 55) ∙ grind (arith, nat_tests)

both_kinds-trail : (b x n : ℕ) → both_kinds x 55 b 54 ≡ trail_mask (tagged b x n)
both_kinds-trail b x n = and_lanes (eqb (x / 1024) 55) (eqb (b / 1024) 54) ∙ grind (arith, nat_tests)

-- `f` of each unit, of the one before it, and of its masks as half of a pair
abbrev lanes_by : (ℕ → ℕ → ℕ → ℕ → ℕ) → ℕ → List ℕ → ℕ → List ℕ
lanes_by f b [] a = []
lanes_by f b (x ∷ u) a = f (both_kinds x 54 (get_or u 0 a) 55) (both_kinds x 55 b 54) b x ∷ lanes_by f x u a

lanes_by-tagged : (f : ℕ → ℕ → ℕ → ℕ → ℕ) (g : ℕ → ℕ → ℕ)
    → ((b d x t : ℕ) → IsTag b d → IsTag x t → x < 0x10000 → f (lead_mask t) (trail_mask t) b x ≡ g d t)
    → (b d : ℕ) (u : List ℕ) (a : ℕ) → IsTag b d → Each1 (Fits w16) u
    → lanes_by f b u a ≡ zip2 g (d ∷ tagged_units b u a) (tagged_units b u a)
lanes_by-tagged f g h b d [] a k fits = refl
lanes_by-tagged f g h b d (x ∷ u) a k fits =
    let n = get_or u 0 a in
    let tag = IsTag-tagged b x n in
    let here : f (both_kinds x 54 n 55) (both_kinds x 55 b 54) b x ≡ g d (tagged b x n) =
    rw (both_kinds-lead b x n, both_kinds-trail b x n) (h b d x (tagged b x n) k tag fits.0.fits) in
    λ i. here i ∷ lanes_by-tagged f g h x (tagged b x n) u a tag fits.1 i

abbrev lanes_of_kind : ℕ → List ℕ → List ℕ
lanes_of_kind k kinds = zip2 (λ a b. cond (eqb a b) 0xFFFF 0) kinds (replicate 16 k)

abbrev before_lanes : List ℕ → List ℕ
before_lanes u = pick_l 0 (u ++ replicate 16 0) (16 ∷ 0 ∷ 1 ∷ 2 ∷ 3 ∷ 4 ∷ 5 ∷ 6 ∷ 7 ∷ 8 ∷ 9 ∷ 10 ∷ 11 ∷ 12 ∷ 13 ∷ 14 ∷ [])

abbrev pair_lead_lanes : List ℕ → List ℕ
pair_lead_lanes u =
    let kinds = lanes_div 1024 u in
    zip2 bit_and (lanes_of_kind 54 kinds) (lanes_of_kind 55 (pick_l 0 (kinds ++ replicate 16 55) (1 ∷ 2 ∷ 3 ∷ 4 ∷ 5 ∷ 6 ∷ 7 ∷ 8 ∷ 9 ∷ 10 ∷ 11 ∷ 12 ∷ 13 ∷ 14 ∷ 15 ∷ 16 ∷ [])))

abbrev pair_trail_lanes : List ℕ → List ℕ
pair_trail_lanes u =
    let kinds = lanes_div 1024 u in
    zip2 bit_and (lanes_of_kind 55 kinds) (lanes_of_kind 54 (before_lanes kinds))

abbrev lanes_sub : List ℕ → List ℕ → List ℕ
lanes_sub = zip2 (λ a b. (a + (65536 - b)) % 65536)

abbrev head_lanes : List ℕ → List ℕ → List ℕ
head_lanes own u =
    let high = lanes_add (lanes_rem 1024 u) (replicate 16 64) in
    let unset = lanes_mul 4096 (lanes_sub (replicate 16 3) (lanes_rem 4 (before_lanes u))) in
    sel_l (map (top 15) (pair_lead_lanes u)) (lanes_add (replicate 16 0xF0ED) (lanes_mul 256 (lanes_div 256 high)))
    (lanes_sub own (sel_l (map (top 15) (pair_trail_lanes u)) unset (replicate 16 0)))

abbrev last_lanes : List ℕ → List ℕ → List ℕ → List ℕ
last_lanes own flags u = lanes_add (sel_l (map (top 15) (pair_lead_lanes u))
    (lanes_add (replicate 16 0x80) (lanes_rem 64 (lanes_div 4 (lanes_add (lanes_rem 1024 u) (replicate 16 64))))) own)
    (sel_l (map (top 15) (zip2 bit_or (pair_lead_lanes u) (pair_trail_lanes u))) (replicate 16 0) flags)

-- the head of the unit `n` after the unit `before`
abbrev head : ℕ → ℕ → ℕ
head before n = first_byte n + second_byte before n * 256

-- the last byte of a unit and its flag
abbrev last : ℕ → ℕ
last n = last_byte n + three_byte_bit n * 0x8000

-- `f` of the masks `l` and `t`
abbrev head_by : ℕ → ℕ → ℕ → ℕ → ℕ
head_by l t b x = cond (top 15 l) ((0xF0ED + (x % 1024 + 64) % 65536 / 256 * 256 % 65536) % 65536)
    ((scalar_head x + (65536 - cond (top 15 t) ((3 + (65536 - b % 4)) % 65536 * 4096 % 65536) 0)) % 65536)

head-lane : (b d x t : ℕ) → IsTag b d → IsTag x t → x < 0x10000 → head_by (lead_mask t) (trail_mask t) b x ≡ head d t
head-lane b d x t k m f = grind (arith)

last-lane : (x t : ℕ) → IsTag x t → (cond (top 15 (lead_mask t)) ((0x80 + (x % 1024 + 64) % 65536 / 4 % 64) % 65536) (scalar_last_byte x)
    + cond (top 15 (bit_or (lead_mask t) (trail_mask t))) 0 (three_byte_flag x)) % 65536 ≡ last t
last-lane x t m = elim m [ inl e ↦ grind (arith, nat_tests, e) | inr e ↦ grind (arith, nat_tests, e.0, e.1.0, e.1.1) ]

pub pair_lanes : (own lasts m u : List ℕ) → length u ≡ 16 → Each1 (Fits w16) u → own ≡ map scalar_head u → lasts ≡ map scalar_last_byte u
    → m ≡ map three_byte_flag u → AreUnitBytes (tagged_block u) (head_lanes own u) (last_lanes lasts m u)
pair_lanes own lasts m u l fits x y z = rw (x, y, z) (of_sixteen (λ u. Each1 (Fits w16) u → AreUnitBytes (tagged_block u)
    (head_lanes (map scalar_head u) u) (last_lanes (map scalar_last_byte u) (map three_byte_flag u) u)) u l
    (λ f. record {
      head = by f head_by head head-lane;
      last = by f (λ l t b x. (cond (top 15 l) ((0x80 + (x % 1024 + 64) % 65536 / 4 % 64) % 65536) (scalar_last_byte x)
          + cond (top 15 (bit_or l t)) 0 (three_byte_flag x)) % 65536) (λ d t. last t) (λ b d x t k m _. last-lane x t m);
    }) fits)
  where
    by : Each1 (Fits w16) (sixteen_lanes u) → (f : ℕ → ℕ → ℕ → ℕ → ℕ) (g : ℕ → ℕ → ℕ)
        → ((b d x t : ℕ) → IsTag b d → IsTag x t → x < 0x10000 → f (lead_mask t) (trail_mask t) b x ≡ g d t)
        → lanes_by f 0 (sixteen_lanes u) 0xDC00 ≡ zip2 g (0 ∷ tagged_block (sixteen_lanes u)) (tagged_block (sixteen_lanes u))
    by e f g h = lanes_by-tagged f g h 0 0 (sixteen_lanes u) 0xDC00 (inl refl) e

-- if no lane is a surrogate that is no half of a pair, no unit is tagged
abbrev lone_lane : ℕ → ℕ → ℕ → ℕ → ℕ
lone_lane l t b x = bit_xor (cond (eqb (x / 2048) 27) 0xFFFF 0) (bit_or l t)

unit-from_lane : (b x t : ℕ) → x < 0x10000 → IsTag x t → top 15 (lone_lane (lead_mask t) (trail_mask t) b x) ≡ false → IsUnit t
unit-from_lane b x t h m e = grind (arith, false≢true, eq-eqb, le-ltb)

units-from_mask : (b : ℕ) (u : List ℕ) (a : ℕ) → Each1 (Fits w16) u → mask_l (map (top 15) (lanes_by lone_lane b u a)) ≡ 0
    → Each1 IsUnit (tagged_units b u a)
units-from_mask b [] a f e = tt
units-from_mask b (x ∷ u) a f e = elim (cases_Bool (top 15 (lone_lane (both_kinds x 54 n 55) (both_kinds x 55 b 54) b x))) [
  | inl t ↦ absurd (omega (arith, rw t at e))
  | inr o ↦ (
    unit-from_lane b x (tagged b x n) f.0.fits (IsTag-tagged b x n) (rw (both_kinds-lead b x n, both_kinds-trail b x n) at o),
    units-from_mask x u a f.1 (omega (arith, rw o at e)),
  )
]
  where
    n : ℕ
    n = get_or u 0 a

pub units-from_lone_mask : (u : List ℕ) → length u ≡ 16 → Each1 (Fits w16) u → mask_l (map (top 15)
    (zip2 bit_xor (lanes_of_kind 27 (lanes_div 2048 u)) (zip2 bit_or (pair_lead_lanes u) (pair_trail_lanes u)))) % 2 ^ 64 ≡ 0
    → Each1 IsUnit (tagged_block u)
units-from_lone_mask u l = of_sixteen (λ u. Each1 (Fits w16) u → mask_l (map (top 15)
    (zip2 bit_xor (lanes_of_kind 27 (lanes_div 2048 u)) (zip2 bit_or (pair_lead_lanes u) (pair_trail_lanes u)))) % 2 ^ 64 ≡ 0
    → Each1 IsUnit (tagged_block u)) u l (λ f e. units-from_mask 0 (sixteen_lanes u) 0xDC00 f
    (sym (mask_l-mod (map (top 15) (lanes_by lone_lane 0 (sixteen_lanes u) 0xDC00)) 64 (omega arith)) ∙ e))

-- a unit that is no surrogate has the same bytes by both computations
scalar_bytes-same : (x : ℕ) → x < 0x10000 → ¬ (IsSurrogate x) → (b : ℕ)
    → (scalar_head x ≡ head b x) × ((scalar_last_byte x + three_byte_flag x) % 65536 ≡ last x)
scalar_bytes-same x f n b = grind (arith, cases_lt, lt-ltb, le-ltb)

-- units of which none is a surrogate are not changed by tags
scalar_candidates : (b : ℕ) (u : List ℕ) (a : ℕ) → AreScalarUnits u → (tagged_units b u a ≡ u) × Each1 IsUnit u
    × (map scalar_head u ≡ zip2 head (b ∷ u) u) × (lanes_add (map scalar_last_byte u) (map three_byte_flag u) ≡ map last u)
scalar_candidates b [] a h = (refl, tt, refl, refl)
scalar_candidates b (x ∷ u) a h =
    let more = scalar_candidates x u a h.1 in
    let own = scalar_bytes-same x h.0.0 h.0.1 b in
    let same = tagged-scalar b x (get_or u 0 a) h.0.1 in (
      λ i. same i ∷ more.0 i,
      (omega (arith, h.0.0, h.0.1), more.1),
      λ i. own.0 i ∷ more.2 i,
      λ i. own.1 i ∷ more.3 i,
    )

pub scalar_lanes : (own lasts m u : List ℕ) → AreScalarUnits u → own ≡ map scalar_head u → lasts ≡ map scalar_last_byte u
    → m ≡ map three_byte_flag u → AreUnitBytes (tagged_block u) own (lanes_add lasts m) × Each1 IsUnit (tagged_block u)
scalar_lanes own lasts m u h x y z = grind (arith, scalar_candidates)

-- The candidate bytes as 8-bit lanes, and the table index of their lengths.

pub IsByteCount-byte_count : (n : ℕ) → IsByteCount (byte_count n)
IsByteCount-byte_count n = (grind (arith, nat_tests), grind (arith, nat_tests))

abbrev interleaved : ℕ → List ℕ → List ℕ
interleaved b [] = []
interleaved b (n ∷ u) = head b n ∷ last n ∷ interleaved n u

bytes_fit : (b n : ℕ) → (first_byte n < 256) × (second_byte b n < 256) × (last_byte n < 256) × (three_byte_bit n ≤ 1)
bytes_fit b n = (omega arith, grind (arith, nat_tests), grind (arith, nat_tests), grind (arith, nat_tests))

-- the bytes of two lanes before others
byte_digits : (m f s l t x : ℕ) → f < 256 → s < 256 → l < 256 → t ≤ 1
    → digits_l 256 (suc (suc (suc (suc m)))) ((f + s * 256) + 65536 * ((l + t * 0x8000) + 65536 * x))
    ≡ f ∷ s ∷ l ∷ (t * 0x80) ∷ digits_l 256 m x
byte_digits m f s l t x i j k h = grind arith

abbrev four_times : List ℕ → ℕ
four_times [] = 0
four_times (x ∷ u) = suc (suc (suc (suc (four_times u))))

digits-interleaved : (b : ℕ) (u : List ℕ) → digits_l 256 (four_times u) (number_l 65536 (interleaved b u)) ≡ byte_lanes b u
digits-interleaved b [] = refl
digits-interleaved b (n ∷ u) =
    let fit = bytes_fit b n in
    byte_digits (four_times u) (first_byte n) (second_byte b n) (last_byte n) (three_byte_bit n) (number_l 65536 (interleaved n u))
    fit.0 fit.1 fit.2 fit.3
    ∙ ap (λ w. first_byte n ∷ second_byte b n ∷ last_byte n ∷ (three_byte_bit n * 0x80) ∷ w) (digits-interleaved n u)

abbrev four_lanes : List ℕ → List ℕ
four_lanes u = pick_l 0 u (0 ∷ 1 ∷ 2 ∷ 3 ∷ [])

-- the lanes of four units, by the indexes of their interleaved lanes
abbrev quarter_lanes : List ℕ → List ℕ → List ℕ → List ℕ
quarter_lanes hs ls ks = digits_l 256 16 (number_l 65536 (pick_l 0 (hs ++ ls) ks))

quarter-by : (own : List ℕ → List ℕ) (before : List ℕ → ℕ) (ks : List ℕ)
    → ((u : List ℕ) → let v = sixteen_lanes u in pick_l 0 (zip2 head (0 ∷ v) v ++ map last v) ks ≡ interleaved (before v) (four_lanes (own v)))
    → (u : List ℕ) {hs ls : List ℕ} → length u ≡ 16 → length (own u) ≡ 4 → AreUnitBytes u hs ls
    → quarter_lanes hs ls ks ≡ byte_lanes (before u) (own u)
quarter-by own before ks same u long four are = rw (are.head, are.last)
    (of_sixteen (λ u. quarter_lanes (zip2 head (0 ∷ u) u) (map last u) ks ≡ byte_lanes (before u) (four_lanes (own u))) u long
    (ap (λ w. digits_l 256 16 (number_l 65536 w)) (same u) ∙ digits-interleaved (before (sixteen_lanes u)) (four_lanes (own (sixteen_lanes u))))
    ∙ ap (byte_lanes (before u)) (pick_l_whole 0 (own u) 4 four))

pub first_lanes : (u : List ℕ) {hs ls : List ℕ} → length u ≡ 16 → AreUnitBytes u hs ls
    → quarter_lanes hs ls (0 ∷ 16 ∷ 1 ∷ 17 ∷ 2 ∷ 18 ∷ 3 ∷ 19 ∷ []) ≡ byte_lanes (0) (take 4 u)
first_lanes u long = quarter-by (λ u. take 4 u) (λ u. 0) (0 ∷ 16 ∷ 1 ∷ 17 ∷ 2 ∷ 18 ∷ 3 ∷ 19 ∷ []) (λ u. refl) u long
    (omega (arith, long, length-take 4 u))

pub second_lanes : (u : List ℕ) {hs ls : List ℕ} → length u ≡ 16 → AreUnitBytes u hs ls
    → quarter_lanes hs ls (4 ∷ 20 ∷ 5 ∷ 21 ∷ 6 ∷ 22 ∷ 7 ∷ 23 ∷ []) ≡ byte_lanes (get_or u 3 0) (take 4 (drop 4 u))
second_lanes u long = quarter-by (λ u. take 4 (drop 4 u)) (λ u. get_or u 3 0) (4 ∷ 20 ∷ 5 ∷ 21 ∷ 6 ∷ 22 ∷ 7 ∷ 23 ∷ []) (λ u. refl) u long
    (omega (arith, long, length-take 4 (drop 4 u), length-drop 4 u))

pub third_lanes : (u : List ℕ) {hs ls : List ℕ} → length u ≡ 16 → AreUnitBytes u hs ls
    → quarter_lanes hs ls (8 ∷ 24 ∷ 9 ∷ 25 ∷ 10 ∷ 26 ∷ 11 ∷ 27 ∷ []) ≡ byte_lanes (get_or (drop 4 u) 3 0) (take 4 (drop 4 (drop 4 u)))
third_lanes u long = quarter-by (λ u. take 4 (drop 4 (drop 4 u))) (λ u. get_or (drop 4 u) 3 0) (8 ∷ 24 ∷ 9 ∷ 25 ∷ 10 ∷ 26 ∷ 11 ∷ 27 ∷ []) (λ u. refl) u long
    (omega (arith, long, length-take 4 (drop 4 (drop 4 u)), length-drop 4 (drop 4 u), length-drop 4 u))

pub fourth_lanes : (u : List ℕ) {hs ls : List ℕ} → length u ≡ 16 → AreUnitBytes u hs ls
    → quarter_lanes hs ls (12 ∷ 28 ∷ 13 ∷ 29 ∷ 14 ∷ 30 ∷ 15 ∷ 31 ∷ []) ≡ byte_lanes (get_or (drop 4 (drop 4 u)) 3 0) (drop 4 (drop 4 (drop 4 u)))
fourth_lanes u long = quarter-by (λ u. drop 4 (drop 4 (drop 4 u))) (λ u. get_or (drop 4 (drop 4 u)) 3 0) (12 ∷ 28 ∷ 13 ∷ 29 ∷ 14 ∷ 30 ∷ 15 ∷ 31 ∷ []) (λ u. refl) u long
    (omega (arith, long, length-drop 4 (drop 4 (drop 4 u)), length-drop 4 (drop 4 u), length-drop 4 u))

-- The mask of the lanes of last bytes is the table index.

abbrev is_set : ℕ → Bool
is_set y = top 7 (cond (leb 128 y) 255 0)

last_bits-byte_count : (n : ℕ) → (cond (is_set (last_byte n)) 1 0 ≡ byte_count n / 2)
    × (cond (is_set (three_byte_bit n * 0x80)) 1 0 ≡ byte_count n / 3)
last_bits-byte_count n = (grind (arith, nat_tests, cases_lt), grind (arith, nat_tests, cases_lt))

two_digits : (m l t x : ℕ) → l < 256 → t ≤ 1
    → digits_l 256 (suc (suc m)) ((l + t * 0x8000) + 65536 * x) ≡ l ∷ (t * 0x80) ∷ digits_l 256 m x
two_digits m l t x i j = grind arith

mask-table_index : (u : List ℕ) → mask_l (map is_set (digits_l 256 (twice u) (number_l 65536 (map last u)))) ≡ units_table_index u
mask-table_index [] = refl
mask-table_index (n ∷ u) =
    let fit = bytes_fit 0 n in
    let bits = last_bits-byte_count n in
    ap (λ w. mask_l (map is_set w)) (two_digits (twice u) (last_byte n) (three_byte_bit n) (number_l 65536 (map last u)) fit.2 fit.3)
    ∙ omega (arith, bits.0, bits.1, mask-table_index u)

pub block-table_index : (u : List ℕ) {hs ls : List ℕ} → length u ≡ 16 → AreUnitBytes u hs ls
    → mask_l (map (top 7) (zip2 (λ a b. cond (leb b a) 255 0) (digits_l 256 32 (number_l 65536 ls)) (replicate 32 128))) % 2 ^ 64
    ≡ units_table_index u
block-table_index u long are = rw are.last (of_sixteen (λ u. mask_l (map (top 7) (zip2 (λ a b. cond (leb b a) 255 0)
    (digits_l 256 32 (number_l 65536 (map last u))) (replicate 32 128))) % 2 ^ 64 ≡ units_table_index u) u long
    (mask_l-mod (map is_set (digits_l 256 32 (number_l 65536 (map last (sixteen_lanes u))))) 64 (omega arith)
    ∙ mask-table_index (sixteen_lanes u)))

-- the table index of the first four units, that of the units after them, and the pieces of both
first_four : (b : ℕ) (u : List ℕ) → 4 ≤ length u → (units_table_index u % 256 ≡ units_table_index (take 4 u))
    × (units_table_index u / 256 ≡ units_table_index (drop 4 u))
    × (packed_units b u ≡ packed_units b (take 4 u) ++ packed_units (get_or u 3 0) (drop 4 u))
first_four b [] l = absurd (omega arith)
first_four b (x ∷ []) l = absurd (omega arith)
first_four b (x ∷ y ∷ []) l = absurd (omega arith)
first_four b (x ∷ y ∷ z ∷ []) l = absurd (omega arith)
first_four before (a ∷ b ∷ c ∷ d ∷ u) l = grind (arith, IsByteCount-byte_count, append_assoc, append-nil)

-- the index of each quarter's row
pub quarter_indexes : (u : List ℕ) → length u ≡ 16 → let n = units_table_index u in
    (n % 256 ≡ units_table_index (take 4 u)) × (n / 256 % 256 ≡ units_table_index (take 4 (drop 4 u)))
    × (n / 65536 % 256 ≡ units_table_index (take 4 (drop 4 (drop 4 u)))) × (n / 16777216 % 256 ≡ units_table_index (drop 4 (drop 4 (drop 4 u))))
quarter_indexes u long =
    let v = drop 4 u in
    let w = drop 4 v in
    let x = drop 4 w in
    let lv : length v ≡ 12 = omega (arith, long, length-drop 4 u) in
    let lw : length w ≡ 8 = omega (arith, lv, length-drop 4 v) in
    let lx : length x ≡ 4 = omega (arith, lw, length-drop 4 w) in
    let a = first_four 0 u (omega (arith, long)) in
    let b = first_four 0 v (omega (arith, lv)) in
    let c = first_four 0 w (omega (arith, lw)) in
    let d = (first_four 0 x (omega (arith, lx))).0 ∙ ap units_table_index (take_all 4 x (omega (arith, lx))) in
    (a.0, omega (arith, a.1, b.0), omega (arith, a.1, b.1, c.0), omega (arith, a.1, b.1, c.1, d))

-- The bytes that a row of the table picks are the pieces of the units.

-- a shuffle whose indexes are below 16 has, in each lane, the source lane of that index
pub swz_l-below_16 : (xs : List ℕ) (i : ℕ) (js : List ℕ) → i + length js ≤ 16 → Each1 (λ j. j < 16) js
    → swz_l w8 16 xs i js ≡ map (λ j. get_or xs j 0) js
swz_l-below_16 xs i [] l h = refl
swz_l-below_16 xs i (j ∷ js) l h =
    let here : 16 * ((i + 0) / 16) + j ≡ j = omega (arith, l) in
    let own = get_or-swz_l_below w8 16 xs i (j ∷ js) 0 (omega arith) h.0 ∙ ap (λ k. get_or xs k 0) here in
    λ k. own k ∷ swz_l-below_16 xs (suc i) js (omega (arith, l)) h.1 k

source_lanes-packed_unit : (xs : List ℕ) (k b n : ℕ) → get_or xs k 0 ≡ first_byte n → get_or xs (1 + k) 0 ≡ second_byte b n
    → get_or xs (2 + k) 0 ≡ last_byte n
    → map (λ j. get_or xs j 0) (drop (3 - byte_count n) (k ∷ (1 + k) ∷ (2 + k) ∷ [])) ≡ packed_unit b n
source_lanes-packed_unit xs k b n x y z = grind (arith, drop-map)

source_lanes-packed_units : (v a b c d : ℕ) → let xs = byte_lanes v (a ∷ b ∷ c ∷ d ∷ []) in map (λ j. get_or xs j 0)
    (source_lanes 0 (byte_count a ∷ byte_count b ∷ byte_count c ∷ byte_count d ∷ [])) ≡ packed_units v (a ∷ b ∷ c ∷ d ∷ [])
source_lanes-packed_units v a b c d =
    let xs = byte_lanes v (a ∷ b ∷ c ∷ d ∷ []) in
    let first = source_lanes-packed_unit xs 0 v a refl refl refl in
    let second = source_lanes-packed_unit xs 4 a b refl refl refl in
    let third = source_lanes-packed_unit xs 8 b c refl refl refl in
    let fourth = source_lanes-packed_unit xs 12 c d refl refl refl in
    simp (map-append, append-nil, first, second, third, fourth)

pub swz_l-packed_units : (xs row : List ℕ) (b : ℕ) (u : List ℕ) → length row ≤ 16 → Each1 (λ j. j < 16) row → length u ≡ 4
    → xs ≡ byte_lanes b u → let count = λ (k : ℕ). byte_count (get_or u k 0) in
    take (count 0 + count 1 + count 2 + count 3) row ≡ source_lanes 0 (count 0 ∷ count 1 ∷ count 2 ∷ count 3 ∷ [])
    → take (count 0 + count 1 + count 2 + count 3) (swz_l w8 16 xs 0 row) ≡ packed_units b u
swz_l-packed_units xs row b u short within long lanes own =
    let n = byte_count (get_or u 0 0) + byte_count (get_or u 1 0) + byte_count (get_or u 2 0) + byte_count (get_or u 3 0) in
    let us : four_lanes u ≡ u = pick_l_whole 0 u 4 long in
    ap (take n) (swz_l-below_16 xs 0 row (omega (arith, short)) within) ∙ take-map (λ j. get_or xs j 0) n row
    ∙ ap (map (λ j. get_or xs j 0)) own ∙ rw (lanes ∙ ap (byte_lanes b) (sym us))
    (source_lanes-packed_units b (get_or u 0 0) (get_or u 1 0) (get_or u 2 0) (get_or u 3 0)) ∙ ap (packed_units b) us

-- the bytes of the four quarters, appended one after another, are those of the block
pub packed_units-quarters : (kept : List ℕ) {a b c d : List ℕ} (u : List ℕ) → length u ≡ 16 → a ≡ kept ++ packed_units 0 (take 4 u)
    → b ≡ a ++ packed_units (get_or u 3 0) (take 4 (drop 4 u))
    → c ≡ b ++ packed_units (get_or (drop 4 u) 3 0) (take 4 (drop 4 (drop 4 u)))
    → d ≡ c ++ packed_units (get_or (drop 4 (drop 4 u)) 3 0) (drop 4 (drop 4 (drop 4 u))) → d ≡ kept ++ packed_units 0 u
packed_units-quarters kept u long first second third fourth =
    let v = drop 4 u in
    let lv : length v ≡ 12 = omega (arith, long, length-drop 4 u) in
    let a = (first_four 0 u (omega (arith, long))).2 in
    let b = (first_four (get_or u 3 0) v (omega (arith, lv))).2 in
    let c = (first_four (get_or v 3 0) (drop 4 v) (omega (arith, lv, length-drop 4 v))).2 in
    rw (fourth, third, second, first, a, b, c) (simp append_assoc)

-- the last of sixteen units is not tagged if it is a lead
last-tagged : (u : List ℕ) → length u ≡ 16 → IsLead (get_or u 15 0) → IsLead (get_or (tagged_block u) 15 0)
last-tagged u long = of_sixteen (λ u. IsLead (get_or u 15 0) → IsLead (get_or (tagged_block u) 15 0)) u long
    (λ l. subst IsLead (sym (tagged-lead_before_trail (get_or u 14 0) (get_or u 15 0) 0xDC00 l (omega arith, omega arith))) l)

packed_units-last : (t : List ℕ) → length t ≡ 16 → packed_units 0 t ≡ packed_units 0 (take 15 t) ++ packed_unit (get_or t 14 0) (get_or t 15 0)
packed_units-last t long = of_sixteen (λ u. packed_units 0 u ≡ packed_units 0 (take 15 u) ++ packed_unit (get_or u 14 0) (get_or u 15 0)) t long
    (simp (append_assoc, append-nil))

-- without the two bytes of a lead at the end, the bytes are the pieces of the fifteen units before it
pub take-without_lead : (w kept u : List ℕ) (all : ℕ) → length u ≡ 16 → all ≤ length w → IsLead (get_or u 15 0)
    → take all w ≡ kept ++ packed_units 0 (tagged_block u)
    → (2 ≤ all) × (take (all - 2) w ≡ kept ++ packed_units 0 (take 15 (tagged_block u)))
take-without_lead w kept u all long within lead e =
    let t = tagged_block u in
    let front = kept ++ packed_units 0 (take 15 t) in
    let last = packed_unit (get_or t 14 0) (get_or t 15 0) in
    let whole : take all w ≡ front ++ last = e ∙ ap (λ p. kept ++ p) (packed_units-last t (length-tagged_block u long))
    ∙ sym (append_assoc kept (packed_units 0 (take 15 t)) last) in
    let two : length last ≡ 2 = ap length (packed_unit-lead (get_or t 14 0) (get_or t 15 0) (last-tagged u long lead)) in
    let count : all ≡ length front + 2 = omega (arith, length-take-le all w within, ap length whole, length-append front last, two) in
    let left : all - 2 ≡ length front = omega (arith, count) in (
      omega (arith, count),
      sym (take-take (all - 2) all w (omega arith)) ∙ ap (take (all - 2)) whole ∙ ap (λ n. take n (front ++ last)) left
          ∙ take-append_seam front last,
    )
