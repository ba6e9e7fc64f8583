-- The lanes that compute the units of a block.
use Rattle.wtf8.proofs.Common.{◌≡◌, ℕ, zero, suc, ◌+◌, ◌-◌, ◌*◌, ◌/◌, ◌%◌, ◌^◌, ◌<◌, ◌≤◌, List, [], ◌∷◌, ◌++◌, Bool, true, false, length}
use Rattle.wtf8.proofs.Common.{take, drop, map, cond, refl, sym, ap, ◌∙◌, subst, arith, Each1, Fits, w8, mask_l, top, sel_l, zip2, ltb, leb}
use Rattle.wtf8.proofs.Common.{replicate, nat_tests, cases_lt, inl, inr, lt-ltb, le-ltb, le-leb, lt-leb, mask_l-mod, length-map, pick_l_whole}
use Rattle.wtf8.proofs.Common.{tops_compared, eqb, eqb-true, IsTrue}
use Rattle.std.proofs.lemmas.Simd.{zip2_splat_left}
use lib.Lanes.{pick_l}
use Rattle.std.specs.List.{range_with_len}
use Rattle.wtf8.specs.private.UnitEnds.{by_position, bytes_one_before, bytes_two_before, low_byte, high_of_two, high_byte, low_of_any, high_of_any, ends_in_block}
use Rattle.wtf8.specs.private.UnitEnds.{set_lanes, words, joined_words}

-- The bytes before each byte.

abbrev shuffled : List ℕ → List ℕ → List ℕ
shuffled u js = pick_l 0 (u ++ replicate 32 0) js

pub of_32 : (P : List ℕ → Type 0) (u : List ℕ) → length u ≡ 32 → P (pick_l 0 u (range_with_len 0 32)) → P u
of_32 P u l p = subst P (pick_l_whole 0 u 32 l) p

pub shuffled-one : (u : List ℕ) → length u ≡ 32 → shuffled u (32 ∷ range_with_len 0 31) ≡ bytes_one_before u
shuffled-one u l = of_32 (λ u. shuffled u (32 ∷ range_with_len 0 31) ≡ bytes_one_before u) u l refl

pub shuffled-two : (u : List ℕ) → length u ≡ 32 → shuffled u (32 ∷ 33 ∷ range_with_len 0 30) ≡ bytes_two_before u
shuffled-two u l = of_32 (λ u. shuffled u (32 ∷ 33 ∷ range_with_len 0 30) ≡ bytes_two_before u) u l refl

-- Operations on lanes of eight bits, and on one.

abbrev flag : Bool → Bool
flag t = top 7 (cond t 255 0)

flag-same : (t : Bool) → flag t ≡ t
flag-same true = refl
flag-same false = refl

abbrev are_less : List ℕ → List ℕ → List Bool
are_less a b = map (top 7) (zip2 (λ a b. cond (ltb a b) 255 0) a b)

abbrev are_at_least : ℕ → ℕ → List ℕ → List Bool
are_at_least n k a = map (top 7) (zip2 (λ a b. cond (leb a b) 255 0) (replicate n k) a)

abbrev add : List ℕ → List ℕ → List ℕ
add = zip2 (λ a b. (a + b) % 256)

abbrev times : ℕ → List ℕ → ℕ → List ℕ
times n a k = zip2 (λ a b. a * b % 256) a (replicate n k)

abbrev over : ℕ → List ℕ → ℕ → List ℕ
over n a k = zip2 (λ a b. a / b) a (replicate n k)

abbrev modulo : ℕ → List ℕ → ℕ → List ℕ
modulo n a k = zip2 (λ a b. a % b) a (replicate n k)

abbrev greater_lanes : List ℕ → List ℕ → List ℕ
greater_lanes a b = sel_l (are_less a b) b a

abbrev less_by : ℕ → List ℕ → ℕ → List ℕ
less_by n a k = zip2 (λ a b. (a + (256 - b)) % 256) (greater_lanes a (replicate n k)) (replicate n k)

less_by_lane : (k a : ℕ) → k < 256 → a < 256 → (cond (flag (ltb a k)) k a + (256 - k)) % 256 ≡ a - k
less_by_lane k a l m = elim (cases_lt a k) [ inl h ↦ rw (lt-ltb a k h) (omega (arith, h, l)) | inr h ↦ rw (le-ltb a k h) (omega (arith, h, m)) ]

abbrev lead_lanes : ℕ → List ℕ → List ℕ → List ℕ
lead_lanes n one u = sel_l (are_less u (replicate n 0x80)) (replicate n 0) one

abbrev pub low_lanes : ℕ → List ℕ → List ℕ → List ℕ
low_lanes n one u = add (modulo n u 128) (times n (lead_lanes n one u) 64)

low_lanes-by_position : (z y x : ℕ) (u : List ℕ)
    → low_lanes (length u) (by_position (λ z y x b. x) z y x u) u ≡ by_position (λ z y x b. low_byte x b) z y x u
low_lanes-by_position z y x [] = refl
low_lanes-by_position z y x (b ∷ u) =
    let here = ap (λ t. (b % 128 + cond t 0 x * 64 % 256) % 256) (flag-same (ltb b 128)) in
    λ i. here i ∷ low_lanes-by_position y x b u i

pub low_lanes-block : (u : List ℕ) → length u ≡ 32 → low_lanes 32 (bytes_one_before u) u ≡ by_position (λ z y x b. low_byte x b) 0 0 0 u
low_lanes-block u l = subst (λ n. low_lanes n (bytes_one_before u) u ≡ by_position (λ z y x b. low_byte x b) 0 0 0 u) l
    (low_lanes-by_position 0 0 0 u)

abbrev pub high_of_two_lanes : ℕ → List ℕ → List ℕ → List ℕ
high_of_two_lanes n one u = modulo n (over n (lead_lanes n one u) 4) 16

high_of_two_lanes-by_position : (z y x : ℕ) (u : List ℕ)
    → high_of_two_lanes (length u) (by_position (λ z y x b. x) z y x u) u ≡ by_position (λ z y x b. high_of_two x b) z y x u
high_of_two_lanes-by_position z y x [] = refl
high_of_two_lanes-by_position z y x (b ∷ u) =
    let here = ap (λ t. cond t 0 x / 4 % 16) (flag-same (ltb b 128)) in
    λ i. here i ∷ high_of_two_lanes-by_position y x b u i

pub high_of_two_lanes-block : (u : List ℕ) → length u ≡ 32
    → high_of_two_lanes 32 (bytes_one_before u) u ≡ by_position (λ z y x b. high_of_two x b) 0 0 0 u
high_of_two_lanes-block u l = subst (λ n. high_of_two_lanes n (bytes_one_before u) u ≡ by_position (λ z y x b. high_of_two x b) 0 0 0 u) l
    (high_of_two_lanes-by_position 0 0 0 u)

abbrev pub high_lanes : ℕ → List ℕ → List ℕ → List ℕ
high_lanes n two high = add high (times n (less_by n two 0xE0) 16)

high_lanes-by_position : (z y x : ℕ) (u : List ℕ) → y < 256 → x < 256 → Each1 (Fits w8) u
    → high_lanes (length u) (by_position (λ z y x b. y) z y x u) (by_position (λ z y x b. high_of_two x b) z y x u)
    ≡ by_position (λ z y x b. high_byte y x b) z y x u
high_lanes-by_position z y x [] l m f = refl
high_lanes-by_position z y x (b ∷ u) l m f =
    let less = less_by_lane 0xE0 y (omega arith) l in
    λ i. (high_of_two x b + less i * 16 % 256) % 256 ∷ high_lanes-by_position y x b u m f.0.fits f.1 i

pub high_lanes-block : (u : List ℕ) → length u ≡ 32 → Each1 (Fits w8) u
    → high_lanes 32 (bytes_two_before u) (by_position (λ z y x b. high_of_two x b) 0 0 0 u)
    ≡ by_position (λ z y x b. high_byte y x b) 0 0 0 u
high_lanes-block u l f = subst (λ n. high_lanes n (bytes_two_before u) (by_position (λ z y x b. high_of_two x b) 0 0 0 u)
    ≡ by_position (λ z y x b. high_byte y x b) 0 0 0 u) l (high_lanes-by_position 0 0 0 u (omega arith) (omega arith) f)

-- by how much the byte two positions before exceeds 70
abbrev pub excess : List ℕ → List ℕ
excess u = by_position (λ z y x b. y - 0x70) 0 0 0 u

excess-by_position : (z y x : ℕ) (u : List ℕ) → y < 256 → x < 256 → Each1 (Fits w8) u
    → less_by (length u) (by_position (λ z y x b. y) z y x u) 0x70 ≡ by_position (λ z y x b. y - 0x70) z y x u
excess-by_position z y x [] l m f = refl
excess-by_position z y x (b ∷ u) l m f =
    λ i. less_by_lane 0x70 y (omega arith) l i ∷ excess-by_position y x b u m f.0.fits f.1 i

pub excess-block : (u : List ℕ) → length u ≡ 32 → Each1 (Fits w8) u → less_by 32 (bytes_two_before u) 0x70 ≡ excess u
excess-block u l f = subst (λ n. less_by n (bytes_two_before u) 0x70 ≡ excess u) l (excess-by_position 0 0 0 u (omega arith) (omega arith) f)

excess-one_before : (a c d z y x : ℕ) (u : List ℕ) → d ≡ z - 0x70
    → by_position (λ z y x b. x) a c d (by_position (λ z y x b. y - 0x70) z y x u) ≡ by_position (λ z y x b. z - 0x70) z y x u
excess-one_before a c d z y x [] e = refl
excess-one_before a c d z y x (b ∷ u) e = λ i. e i ∷ excess-one_before c d (y - 0x70) y x b u refl i

length-by_position : {A : Type 0} (f : ℕ → ℕ → ℕ → ℕ → A) (z y x : ℕ) (u : List ℕ) → length (by_position f z y x u) ≡ length u
length-by_position f z y x [] = refl
length-by_position f z y x (b ∷ u) = ap suc (length-by_position f y x b u)

-- the excess one lane up, so of the byte three positions before
excess-shuffled : (u : List ℕ) → length u ≡ 32
    → shuffled (excess u) (32 ∷ range_with_len 0 31) ≡ by_position (λ z y x b. z - 0x70) 0 0 0 u
excess-shuffled u l = shuffled-one (excess u) (length-by_position (λ z y x b. y - 0x70) 0 0 0 u ∙ l)
    ∙ excess-one_before 0 0 0 0 0 0 u refl

abbrev pub any_low_lanes : ℕ → List ℕ → List ℕ → List ℕ → List ℕ
any_low_lanes n two low high = sel_l (are_at_least n 0x80 two) (add (over n low 16) (times n (less_by n high 4) 16)) low

any_low_lane : (y low high : ℕ) → high < 256
    → cond (flag (leb 0x80 (y - 0x70))) ((low / 16 + (cond (flag (ltb high 4)) 4 high + (256 - 4)) % 256 * 16 % 256) % 256) low
    ≡ cond (ltb y 0xF0) low ((low / 16 + (high - 4) * 16 % 256) % 256)
any_low_lane y low high l = grind (arith, cases_lt, lt-leb, lt-ltb, le-leb, le-ltb, less_by_lane)

any_low_lanes-by_position : (z y x : ℕ) (u : List ℕ)
    → any_low_lanes (length u) (by_position (λ z y x b. y - 0x70) z y x u) (by_position (λ z y x b. low_byte x b) z y x u)
    (by_position (λ z y x b. high_byte y x b) z y x u) ≡ by_position (λ z y x b. low_of_any y x b) z y x u
any_low_lanes-by_position z y x [] = refl
any_low_lanes-by_position z y x (b ∷ u) =
    let here = any_low_lane y (low_byte x b) (high_byte y x b) (omega arith) in
    λ i. here i ∷ any_low_lanes-by_position y x b u i

pub any_low_lanes-block : (u : List ℕ) → length u ≡ 32
    → any_low_lanes 32 (excess u) (by_position (λ z y x b. low_byte x b) 0 0 0 u) (by_position (λ z y x b. high_byte y x b) 0 0 0 u)
    ≡ by_position (λ z y x b. low_of_any y x b) 0 0 0 u
any_low_lanes-block u l = subst (λ n. any_low_lanes n (excess u) (by_position (λ z y x b. low_byte x b) 0 0 0 u)
    (by_position (λ z y x b. high_byte y x b) 0 0 0 u) ≡ by_position (λ z y x b. low_of_any y x b) 0 0 0 u) l
    (any_low_lanes-by_position 0 0 0 u)

abbrev pub any_high_lanes : ℕ → List ℕ → List ℕ → List ℕ → List ℕ
any_high_lanes n two three high = sel_l (are_at_least n 0x80 two) (add (replicate n 0xD8) (over n (less_by n high 4) 16))
    (sel_l (are_at_least n 0x80 three) (add (replicate n 0xDC) (modulo n high 4)) high)

any_high_lane : (z y high : ℕ) → high < 256
    → cond (flag (leb 0x80 (y - 0x70))) ((0xD8 + (cond (flag (ltb high 4)) 4 high + (256 - 4)) % 256 / 16) % 256)
    (cond (flag (leb 0x80 (z - 0x70))) ((0xDC + high % 4) % 256) high)
    ≡ cond (ltb y 0xF0) (cond (ltb z 0xF0) high ((0xDC + high % 4) % 256)) ((0xD8 + (high - 4) / 16) % 256)
any_high_lane z y high l = grind (arith, cases_lt, lt-leb, lt-ltb, le-leb, le-ltb, less_by_lane)

any_high_lanes-by_position : (z y x : ℕ) (u : List ℕ)
    → any_high_lanes (length u) (by_position (λ z y x b. y - 0x70) z y x u) (by_position (λ z y x b. z - 0x70) z y x u)
    (by_position (λ z y x b. high_byte y x b) z y x u) ≡ by_position high_of_any z y x u
any_high_lanes-by_position z y x [] = refl
any_high_lanes-by_position z y x (b ∷ u) =
    let here = any_high_lane z y (high_byte y x b) (omega arith) in
    λ i. here i ∷ any_high_lanes-by_position y x b u i

pub any_high_lanes-block : (u e : List ℕ) → length u ≡ 32 → e ≡ excess u
    → any_high_lanes 32 e (shuffled e (32 ∷ range_with_len 0 31)) (by_position (λ z y x b. high_byte y x b) 0 0 0 u)
    ≡ by_position high_of_any 0 0 0 u
any_high_lanes-block u e l same =
    let high = by_position (λ z y x b. high_byte y x b) 0 0 0 u in
    let own = subst (λ n. any_high_lanes n (excess u) (by_position (λ z y x b. z - 0x70) 0 0 0 u) high ≡ by_position high_of_any 0 0 0 u) l
    (any_high_lanes-by_position 0 0 0 u) in
    subst (λ e. any_high_lanes 32 e (shuffled e (32 ∷ range_with_len 0 31)) high ≡ by_position high_of_any 0 0 0 u) (sym same)
    (subst (λ t. any_high_lanes 32 (excess u) t high ≡ by_position high_of_any 0 0 0 u) (sym (excess-shuffled u l)) own)

-- where no byte before leads three bytes or more, a unit's high byte is that of at most two bytes; below, where none
-- leads four, its low byte that of at most three
pub high_byte-short : (z y x : ℕ) (u : List ℕ) → y < 0xE0 → Each1 (λ b. b < 0xE0) (by_position (λ z y x b. x) z y x u)
    → by_position (λ z y x b. high_of_two x b) z y x u ≡ by_position (λ z y x b. high_byte y x b) z y x u
high_byte-short z y x [] l e = refl
high_byte-short z y x (b ∷ u) l e =
    let none : y - 0xE0 ≡ 0 = omega (arith, l) in
    let here : high_of_two x b ≡ high_byte y x b = omega (arith, none) in
    λ i. here i ∷ high_byte-short y x b u e.0 e.1 i

pub low_of_any-short : (z y x : ℕ) (u : List ℕ) → Each1 (λ b. b < 0xF0) (by_position (λ z y x b. y) z y x u)
    → by_position (λ z y x b. low_byte x b) z y x u ≡ by_position (λ z y x b. low_of_any y x b) z y x u
low_of_any-short z y x [] e = refl
low_of_any-short z y x (b ∷ u) e =
    let here : low_byte x b ≡ low_of_any y x b = rw (lt-ltb y 0xF0 e.0) refl in
    λ i. here i ∷ low_of_any-short y x b u e.1 i

pub high_of_any-short : (z y x : ℕ) (u : List ℕ) → z < 0xF0 → Each1 (λ b. b < 0xF0) (by_position (λ z y x b. y) z y x u)
    → by_position (λ z y x b. high_byte y x b) z y x u ≡ by_position high_of_any z y x u
high_of_any-short z y x [] l e = refl
high_of_any-short z y x (b ∷ u) l e =
    let here : high_byte y x b ≡ high_of_any z y x b = rw (lt-ltb y 0xF0 e.0, lt-ltb z 0xF0 l) refl in
    λ i. here i ∷ high_of_any-short y x b u e.0 e.1 i

-- if the bytes one before are below E0, those two before are below F0
pub below_two : (z y x : ℕ) (u : List ℕ) → y < 0xE0 → Each1 (λ b. b < 0xE0) (by_position (λ z y x b. x) z y x u)
    → Each1 (λ b. b < 0xF0) (by_position (λ z y x b. y) z y x u)
below_two z y x [] l e = tt
below_two z y x (b ∷ u) l e = (omega (arith, l), below_two y x b u e.0 e.1)

-- The mask of the positions at which a unit ends.

abbrev ends_mask : List ℕ → ℕ → ℕ
ends_mask lanes n = mask_l (are_less lanes (replicate n 0x80)) % 2 ^ 64

abbrev short_end_lanes : ℕ → List ℕ → List ℕ → List ℕ
short_end_lanes n one u = greater_lanes (less_by n u 0x40) (less_by n one 0x60)

short_end_lane : ℕ → ℕ → Bool
short_end_lane x b =
    let own = (cond (flag (ltb b 0x40)) 0x40 b + (256 - 0x40)) % 256 in
    let before = (cond (flag (ltb x 0x60)) 0x60 x + (256 - 0x60)) % 256 in
    flag (ltb (cond (flag (ltb own before)) before own) 0x80)

short_end_lane-ends : (y x b : ℕ) (w : List ℕ) → y < 0xF0 → x < 256 → b < 256 → short_end_lane x b ≡ ends_in_block y x b w
unfolding short_end_lane
short_end_lane-ends y x b [] l m k = grind (arith, nat_tests, cases_lt)
short_end_lane-ends y x b (c ∷ w) l m k = grind (arith, nat_tests, cases_lt)

short_end_lanes-by_position : (z y x : ℕ) (u : List ℕ) → x < 256 → Each1 (Fits w8) u → Each1 (λ b. b < 0xF0) (by_position (λ z y x b. y) z y x u)
    → are_less (short_end_lanes (length u) (by_position (λ z y x b. x) z y x u) u) (replicate (length u) 0x80) ≡ set_lanes y x u
unfolding short_end_lane
short_end_lanes-by_position z y x [] l f e = refl
short_end_lanes-by_position z y x (b ∷ u) l f e =
    let here = short_end_lane-ends y x b u e.0 l f.0.fits in
    λ i. here i ∷ short_end_lanes-by_position y x b u f.0.fits f.1 e.1 i

pub length-set_lanes : (y x : ℕ) (u : List ℕ) → length (set_lanes y x u) ≡ length u
length-set_lanes y x [] = refl
length-set_lanes y x (b ∷ u) = ap suc (length-set_lanes x b u)

-- the mask of up to 64 lanes
mask-set_lanes : (lanes : List Bool) (u : List ℕ) → length u ≡ 32 → lanes ≡ set_lanes 0 0 u → mask_l lanes % 2 ^ 64 ≡ mask_l (set_lanes 0 0 u)
mask-set_lanes lanes u l e =
    ap (λ s. mask_l s % 2 ^ 64) e ∙ mask_l-mod (set_lanes 0 0 u) 64 (omega (arith, length-set_lanes 0 0 u, l))

pub short_ends-mask : (u : List ℕ) → length u ≡ 32 → Each1 (Fits w8) u → Each1 (λ b. b < 0xF0) (bytes_two_before u)
    → ends_mask (short_end_lanes 32 (bytes_one_before u) u) 32 ≡ mask_l (set_lanes 0 0 u)
short_ends-mask u l f e = mask-set_lanes _ u l (subst (λ n. are_less (short_end_lanes n (bytes_one_before u) u) (replicate n 0x80) ≡ set_lanes 0 0 u) l
    (short_end_lanes-by_position 0 0 0 u (omega arith) f e))

-- 255 in the last of `n` lanes
abbrev last_lane : ℕ → List ℕ
last_lane zero = []
last_lane (suc zero) = 255 ∷ []
last_lane (suc (suc n)) = 0 ∷ last_lane (suc n)

abbrev lesser_lanes : List ℕ → List ℕ → List ℕ
lesser_lanes a b = sel_l (are_less a b) a b

abbrev any_end_lanes : ℕ → List ℕ → List ℕ → List ℕ → List ℕ
any_end_lanes n one two u = greater_lanes (short_end_lanes n one u) (lesser_lanes (less_by n two 0x70) (last_lane n))

any_end_lane : ℕ → ℕ → ℕ → ℕ → Bool
any_end_lane y x b last =
    let own = (cond (flag (ltb b 0x40)) 0x40 b + (256 - 0x40)) % 256 in
    let one = (cond (flag (ltb x 0x60)) 0x60 x + (256 - 0x60)) % 256 in
    let two = (cond (flag (ltb y 0x70)) 0x70 y + (256 - 0x70)) % 256 in
    let both = cond (flag (ltb own one)) one own in
    let cut = cond (flag (ltb two last)) two last in
    flag (ltb (cond (flag (ltb both cut)) cut both) 0x80)

any_end_lane-inner : (y x b c : ℕ) (w : List ℕ) → y < 256 → x < 256 → b < 256 → any_end_lane y x b 0 ≡ ends_in_block y x b (c ∷ w)
unfolding any_end_lane
any_end_lane-inner y x b c w l m k = grind (arith, nat_tests, cases_lt)

any_end_lane-last : (y x b : ℕ) → y < 256 → x < 256 → b < 256 → any_end_lane y x b 255 ≡ ends_in_block y x b []
unfolding any_end_lane
any_end_lane-last y x b l m k = grind (arith, nat_tests, cases_lt)

any_end_lanes-by_position : (z y x : ℕ) (u : List ℕ) → y < 256 → x < 256 → Each1 (Fits w8) u
    → are_less (any_end_lanes (length u) (by_position (λ z y x b. x) z y x u) (by_position (λ z y x b. y) z y x u) u)
    (replicate (length u) 0x80) ≡ set_lanes y x u
unfolding any_end_lane
any_end_lanes-by_position z y x [] l m f = refl
any_end_lanes-by_position z y x (b ∷ []) l m f = λ i. any_end_lane-last y x b l m f.0.fits i ∷ []
any_end_lanes-by_position z y x (b ∷ c ∷ u) l m f =
    let more = any_end_lanes-by_position y x b (c ∷ u) m f.0.fits f.1 in
    λ i. any_end_lane-inner y x b c u l m f.0.fits i ∷ more i

pub any_ends-mask : (u : List ℕ) → length u ≡ 32 → Each1 (Fits w8) u
    → ends_mask (any_end_lanes 32 (bytes_one_before u) (bytes_two_before u) u) 32 ≡ mask_l (set_lanes 0 0 u)
any_ends-mask u l f = mask-set_lanes _ u l
    (subst (λ n. are_less (any_end_lanes n (bytes_one_before u) (bytes_two_before u) u) (replicate n 0x80) ≡ set_lanes 0 0 u) l
    (any_end_lanes-by_position 0 0 0 u (omega arith) (omega arith) f))

below_all : (k : ℕ) (xs : List ℕ) → mask_l (map (leb k) xs) ≡ 0 → Each1 (λ b. b < k) xs
below_all k [] e = tt
below_all k (x ∷ xs) e = elim (cases_lt x k) [
  | inl l ↦ (l, below_all k xs (omega (arith, e)))
  | inr g ↦ absurd (omega (arith, rw (le-leb k x g) at e))
]

-- if the mask of the lanes from 80 on is 0, all are below 80
below_if_none : (xs : List ℕ) → length xs ≡ 32 → IsTrue (eqb (mask_l (are_at_least 32 0x80 xs) % 2 ^ 64) 0) → Each1 (λ b. b < 0x80) xs
below_if_none xs long t =
    let lanes = tops_compared w8 leb (replicate 32 0x80) xs ∙ zip2_splat_left leb 0x80 32 xs long in
    below_all 0x80 xs (sym (mask_l-mod (map (leb 0x80) xs) 64 (omega (arith, length-map xs (leb 0x80), long)))
    ∙ (ap (λ ms. mask_l ms % 2 ^ 64) (sym lanes) ∙ eqb-true _ 0 t))

length-less_by : (n : ℕ) (xs : List ℕ) → length (less_by (length xs) xs n) ≡ length xs
length-less_by n [] = refl
length-less_by n (b ∷ xs) = ap suc (length-less_by n xs)

below_more : (n : ℕ) (xs : List ℕ) → n < 256 → Each1 (Fits w8) xs → Each1 (λ b. b < 0x80) (less_by (length xs) xs n)
    → Each1 (λ b. b < n + 0x80) xs
below_more n [] l f e = tt
below_more n (b ∷ xs) l f e = (omega (arith, e.0, less_by_lane n b l f.0.fits), below_more n xs l f.1 e.1)

-- if no byte is 80 or more after `k - 0x80` is taken from it, all are below `k`
pub below_if_no_more : (k : ℕ) (xs : List ℕ) → length xs ≡ 32 → Each1 (Fits w8) xs → 0x80 ≤ k → k < 256
    → IsTrue (eqb (mask_l (are_at_least 32 0x80 (less_by 32 xs (k - 0x80))) % 2 ^ 64) 0) → Each1 (λ b. b < k) xs
below_if_no_more k xs long f l m t =
    let n = k - 0x80 in
    let long_less : length (less_by 32 xs n) ≡ 32 = subst (λ m. length (less_by m xs n) ≡ m) long (length-less_by n xs) in
    let sum : n + 0x80 ≡ k = omega (arith, l) in
    let below : Each1 (λ b. b < 0x80) (less_by (length xs) xs n) =
    subst (λ m. Each1 (λ b. b < 0x80) (less_by m xs n)) (sym long) (below_if_none (less_by 32 xs n) long_less t) in
    subst (λ k. Each1 (λ b. b < k) xs) sum (below_more n xs (omega (arith, m)) f below)

-- The words of eight positions each.

-- the indexes of the low and the high bytes of `n` positions from `k` on
abbrev interleaved : ℕ → ℕ → List ℕ
interleaved k zero = []
interleaved k (suc n) = k ∷ (32 + k) ∷ interleaved (suc k) n

abbrev words_from : ℕ → List ℕ → List ℕ → List ℕ
words_from k low high = words (pick_l 0 (low ++ high) (interleaved k 8))

-- the words that four shuffles interleave are all words, by eight
pub record AreAllWords (low high : List ℕ) : Type 0 where
  pub first : words_from 0 low high ≡ take 8 (joined_words low high)
  pub second : words_from 8 low high ≡ take 8 (drop 8 (joined_words low high))
  pub third : words_from 16 low high ≡ take 8 (drop 8 (drop 8 (joined_words low high)))
  pub fourth : words_from 24 low high ≡ drop 8 (drop 8 (drop 8 (joined_words low high)))

pub all_words : (low high : List ℕ) → length low ≡ 32 → length high ≡ 32 → AreAllWords low high
all_words low high l m = of_32 (λ a. AreAllWords a high) low l (of_32 (λ b. AreAllWords (pick_l 0 low (range_with_len 0 32)) b) high m
    (record { first = refl; second = refl; third = refl; fourth = refl }))

-- the unit that ends with the byte `b` after `z`, `y` and `x`, if one does
abbrev pub unit_at_end : ℕ → ℕ → ℕ → ℕ → ℕ
unit_at_end z y x b = low_of_any y x b + 256 * high_of_any z y x b

pub joined_words-by_position : (z y x : ℕ) (u : List ℕ)
    → joined_words (by_position (λ z y x b. low_of_any y x b) z y x u) (by_position high_of_any z y x u) ≡ by_position unit_at_end z y x u
joined_words-by_position z y x [] = refl
joined_words-by_position z y x (b ∷ u) = λ i. unit_at_end z y x b ∷ joined_words-by_position y x b u i
