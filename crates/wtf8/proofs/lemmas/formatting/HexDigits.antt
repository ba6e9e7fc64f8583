-- Hexadecimal digits in lanes.
use Rattle.wtf8.proofs.Common.{◌≡◌, ℕ, zero, suc, ◌+◌, ◌*◌, ◌/◌, ◌%◌, ◌<◌, ◌≤◌, cond, leb, ltb, inl, inr, List, [], ◌∷◌, ◌++◌, map, length}
use Rattle.wtf8.proofs.Common.{get_or, take, drop, replicate, refl, sym, ap, ◌∙◌, subst, arith, w8, append_assoc, flat_map-append, lt-leb}
use Rattle.wtf8.proofs.Common.{cases_Bool, pick_l_whole, Each1, zip2, hex_of, hex, flat_map, take-append-drop, take-add, swz_l}
use Rattle.wtf8.proofs.Common.{zip2_splat, IsAscii-append, range_with_len, IsAscii, IsClean, bytes}
use Rattle.std.proofs.lemmas.List.FromFn.{get_or-map-range_with_len}
use Rattle.std.proofs.lemmas.Nat.{and_mask}
use borrow.Rule.Simd.Lanes.{act2}
use borrow.Table.Row.{s_int}
use mir.Syntax.{shr, unsigned, bit_and as bit_and_op}
use mir.Val.{Fits}
use Rattle.wtf8.specs.Hex.{digit}
use Rattle.wtf8.proofs.lemmas.codec.Encoding.{encoding_cases}
use Rattle.wtf8.proofs.lemmas.lanes.AsciiFronts.{Each1-map_all}
use Rattle.wtf8.proofs.lemmas.codec.Readings.{clean-first, clean-rest}

-- the ASCII digits of 0 to 15
abbrev pub digit_table : List ℕ
digit_table = 48 ∷ 49 ∷ 50 ∷ 51 ∷ 52 ∷ 53 ∷ 54 ∷ 55 ∷ 56 ∷ 57 ∷ 65 ∷ 66 ∷ 67 ∷ 68 ∷ 69 ∷ 70 ∷ []

map_digit-range : map digit (range_with_len 0 16) ≡ digit_table
unfolding digit
map_digit-range = refl

pub digit_at : (n : ℕ) → n < 16 → get_or digit_table n 0 ≡ digit n
digit_at n h = ap (λ t. get_or t n 0) (sym map_digit-range) ∙ get_or-map-range_with_len digit 0 16 n n 0 h (omega arith)

-- a table lookup turns values below 16 into digits
pub swz_l-digit_table : (i : ℕ) (values : List ℕ) → i + length values ≤ 16 → Each1 (λ v. v < 16) values
    → swz_l w8 16 digit_table i values ≡ map digit values
swz_l-digit_table i [] p h = refl
swz_l-digit_table i (v ∷ values) p h =
    let here : 16 * (i / 16) + v ≡ v = omega arith in
    let one : cond (leb 128 v) zero (get_or digit_table (16 * (i / 16) + v) zero) ≡ digit v =
    rw (lt-leb 128 v (omega (arith, h.0))) (ap (λ n. get_or digit_table n 0) here ∙ digit_at v h.0) in
    λ j. one j ∷ swz_l-digit_table (suc i) values (omega arith) h.1 j

abbrev high_digits : List ℕ → List ℕ
high_digits bytes = zip2 (act2 (shr unsigned) (s_int w8) (s_int w8) (s_int w8)) bytes (replicate 16 4)

abbrev low_digits : List ℕ → List ℕ
low_digits bytes = zip2 (act2 bit_and_op (s_int w8) (s_int w8) (s_int w8)) bytes (replicate 16 15)

high_digits-map : (bytes : List ℕ) → length bytes ≡ 16 → high_digits bytes ≡ map (λ b. b / 16) bytes
high_digits-map bytes p = zip2_splat (act2 (shr unsigned) (s_int w8) (s_int w8) (s_int w8)) bytes 16 4 p

low_digits-map : (bytes : List ℕ) → length bytes ≡ 16 → low_digits bytes ≡ map (λ b. b % 16) bytes
low_digits-map bytes p =
    zip2_splat (act2 bit_and_op (s_int w8) (s_int w8) (s_int w8)) bytes 16 15 p ∙ (λ i. map (λ b. and_mask b 4 i) bytes)

map-div_16_below : (bytes : List ℕ) → Each1 (Fits w8) bytes → Each1 (λ v. v < 16) (map (λ b. b / 16) bytes)
map-div_16_below [] h = tt
map-div_16_below (b ∷ bytes) h = (omega (arith, h.0.fits), map-div_16_below bytes h.1)

-- for each lane: a space, its digit in the first vector and its digit in the second
abbrev interleave_digits : List ℕ → List ℕ
interleave_digits digits = flat_map (λ k. 32 ∷ get_or digits k 0 ∷ get_or digits (16 + k) 0 ∷ []) (range_with_len 0 16)

pub highs_below : (bytes : List ℕ) → length bytes ≡ 16 → Each1 (Fits w8) bytes → Each1 (λ v. v < 16) (high_digits bytes)
highs_below bytes p h = subst (Each1 (λ v. v < 16)) (sym (high_digits-map bytes p)) (map-div_16_below bytes h)

pub lows_below : (bytes : List ℕ) → length bytes ≡ 16 → Each1 (λ v. v < 16) (low_digits bytes)
lows_below bytes p =
    subst (Each1 (λ v. v < 16)) (sym (low_digits-map bytes p)) (Each1-map_all (λ v. v < 16) (λ b. b % 16) (λ b. omega arith) bytes)

-- the interleaved digits of the halves are the spaced text of 16 bytes
pub block_text : (bytes first second : List ℕ) → length bytes ≡ 16 → first ≡ map digit (high_digits bytes)
    → second ≡ map digit (low_digits bytes) → interleave_digits (first ++ second) ≡ flat_map (λ b. 32 ∷ hex_of b) bytes
block_text bytes first second p f s = rw (f, s, high_digits-map bytes p, low_digits-map bytes p)
    (subst (λ v. interleave_digits (map digit (map (λ b. b / 16) v) ++ map digit (map (λ b. b % 16) v)) ≡ flat_map (λ b. 32 ∷ hex_of b) v)
    (pick_l_whole 0 bytes 16 p) refl)

-- the text of the first `at` bytes and of the next `n` is the text of the first `at + n`
pub spaced-append_take : (text start bytes : List ℕ) (at n : ℕ) → text ≡ start ++ flat_map (λ b. 32 ∷ hex_of b) (take at bytes)
    → text ++ flat_map (λ b. 32 ∷ hex_of b) (take n (drop at bytes)) ≡ start ++ flat_map (λ b. 32 ∷ hex_of b) (take (at + n) bytes)
spaced-append_take text start bytes at n e = simp (e, append_assoc, take-add at n bytes, flat_map-append)

-- the text of the first `at` bytes and of the rest is the text of all
pub spaced-append_rest : (text start bytes : List ℕ) (at : ℕ) → text ≡ start ++ flat_map (λ b. 32 ∷ hex_of b) (take at bytes)
    → text ++ flat_map (λ b. 32 ∷ hex_of b) (drop at bytes) ≡ start ++ flat_map (λ b. 32 ∷ hex_of b) bytes
spaced-append_rest text start bytes at e = simp (e, append_assoc, ← flat_map-append, take-append-drop)

digit_ascii : (n : ℕ) → n < 16 → digit n < 128
unfolding digit
digit_ascii n h = elim (cases_Bool (ltb n 10)) [ inl less ↦ rw less (omega arith) | inr more ↦ rw more (omega arith) ]

spaced_ascii : (b : ℕ) → b < 256 → IsAscii (32 ∷ hex_of b)
spaced_ascii b h k = grind (arith, digit_ascii)

all_spaced_ascii : (bytes : List ℕ) → Each1 (λ b. b < 256) bytes → IsAscii (flat_map (λ b. 32 ∷ hex_of b) bytes)
all_spaced_ascii [] h = λ i. omega arith
all_spaced_ascii (b ∷ bytes) h = IsAscii-append (32 ∷ hex_of b) _ (spaced_ascii b h.0) (all_spaced_ascii bytes h.1)

-- hexadecimal text is ASCII
pub hex_ascii : (bytes : List ℕ) → Each1 (λ b. b < 256) bytes → IsAscii (hex bytes)
hex_ascii [] h = λ i. omega arith
hex_ascii (b ∷ bytes) h = IsAscii-append (hex_of b) _ (λ i. spaced_ascii b h.0 (suc i)) (all_spaced_ascii bytes h.1)

-- well-formed bytes are below 256
pub bytes_below_256 : (c : List ℕ) → IsClean c → Each1 (λ b. b < 256) (bytes c)
bytes_below_256 [] x = tt
bytes_below_256 (p ∷ c) x = grind (arith, clean-rest, encoding_cases, clean-first, bytes_below_256 c (clean-rest p c x))
