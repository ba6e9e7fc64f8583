-- The bytes of code points, and what the first bytes determine.
use Rattle.wtf8.proofs.Common.{◌≡◌, ℕ, suc, ◌+◌, ◌/◌, ◌%◌, ◌<◌, ◌≤◌, ◌⊎◌, List, [], ◌∷◌, ◌++◌, length, get_or, refl, sym}
use Rattle.wtf8.proofs.Common.{ap, ◌∙◌, arith, lt-ltb, length-append, le-ltb, cases_lt, append-nil, flat_map-append, IsSurrogate, bytes}
use Rattle.wtf8.proofs.Common.{encoding_is_encode, subst, IsCodePoint, encoding, BeginsWithPoint, encode_same, FirstPointByLead}
use Rattle.std.proofs.Math.Nat.{div-div-eq-div-mul}
use Rattle.wtf8.specs.Form.{encoding}

-- The encoding of a code point: its bytes by range, its length, its lead byte.

abbrev pub second_row : ℕ → List ℕ
second_row p = (0xC0 + p / 64) ∷ (0x80 + p % 64) ∷ []

abbrev pub third_row : ℕ → List ℕ
third_row p = (0xE0 + p / 4096) ∷ (0x80 + p / 64 % 64) ∷ (0x80 + p % 64) ∷ []

abbrev pub fourth_row : ℕ → List ℕ
fourth_row p = (0xF0 + p / 262144) ∷ (0x80 + p / 4096 % 64) ∷ (0x80 + p / 64 % 64) ∷ (0x80 + p % 64) ∷ []

pub encoding_one : (p : ℕ) → p < 0x80 → encoding p ≡ p ∷ []
unfolding encoding
encoding_one p h = rw (lt-ltb p 0x80 h) refl

pub encoding_two : (p : ℕ) → 0x80 ≤ p → p < 0x800 → encoding p ≡ second_row p
unfolding encoding
encoding_two p l h = rw (le-ltb p 0x80 l, lt-ltb p 0x800 h) refl

pub encoding_three : (p : ℕ) → 0x800 ≤ p → p < 0x10000 → encoding p ≡ third_row p
unfolding encoding
encoding_three p l h = rw (le-ltb p 0x80 (omega arith), le-ltb p 0x800 l, lt-ltb p 0x10000 h) refl

pub encoding_four : (p : ℕ) → 0x10000 ≤ p → encoding p ≡ fourth_row p
unfolding encoding
encoding_four p l = rw (le-ltb p 0x80 (omega arith), le-ltb p 0x800 (omega arith), le-ltb p 0x10000 l) refl

-- the range of a code point, by its encoded length
pub data EncodingCase (p : ℕ) : Type 0 where
  one : p < 0x80 → encoding p ≡ p ∷ [] → EncodingCase p
  two : 0x80 ≤ p → p < 0x800 → encoding p ≡ second_row p → EncodingCase p
  three : 0x800 ≤ p → p < 0x10000 → encoding p ≡ third_row p → EncodingCase p
  four : 0x10000 ≤ p → encoding p ≡ fourth_row p → EncodingCase p

pub encoding_cases : (p : ℕ) → EncodingCase p
encoding_cases p = grind (arith, cases_lt, encoding_one, encoding_two, encoding_three, encoding_four)

-- the byte begins a code point: it is ASCII or a lead byte
pub record Begins (b : ℕ) : Type 0 where
  pub start : (b < 0x80) ⊎ (0xC0 ≤ b)

pub first-encoding : (p : ℕ) (r : List ℕ) → Begins (get_or (encoding p ++ r) 0 0)
first-encoding p r = grind (arith, encoding_cases)

-- an ASCII first byte is the whole code point
pub encoding-from_ascii_byte : (p : ℕ) (r : List ℕ) → get_or (encoding p ++ r) 0 0 < 0x80 → (encoding p ≡ p ∷ []) × (p < 0x80)
encoding-from_ascii_byte p r h = grind (arith, encoding_cases)

-- the bytes after the first are continuation bytes
pub continuation-encoding : (p k : ℕ) (r : List ℕ) → suc k < length (encoding p)
    → (0x80 ≤ get_or (encoding p ++ r) (suc k) 0) × (get_or (encoding p ++ r) (suc k) 0 < 0xC0)
continuation-encoding p k r l = grind (arith, encoding_cases)

pub length-encoding_bounds : (p : ℕ) → (1 ≤ length (encoding p)) × (length (encoding p) ≤ 4)
length-encoding_bounds p = grind (arith, encoding_cases)

pub length-surrogate : (p : ℕ) → IsSurrogate p → length (encoding p) ≡ 3
length-surrogate p s = ap length (encoding_three p (omega arith) (omega arith))

-- the encoding in each range, and its least and greatest length
pub ruleset rows = (encoding_one, encoding_two, encoding_three, encoding_four, length-encoding_bounds)

-- the bytes of two lists, and of a list with one more code point
pub bytes-append : (c d : List ℕ) → bytes (c ++ d) ≡ bytes c ++ bytes d
bytes-append c d = flat_map-append encoding c d

pub length-bytes_append : (front : List ℕ) (p : ℕ) (back : List ℕ)
    → length (bytes (front ++ p ∷ back)) ≡ length (bytes front) + (length (encoding p) + length (bytes back))
length-bytes_append front p back = simp (bytes-append, length-append)

pub bytes-pushed : (c : List ℕ) (p : ℕ) → bytes (c ++ p ∷ []) ≡ bytes c ++ encoding p
bytes-pushed c p = bytes-append c (p ∷ []) ∙ ap (λ w. bytes c ++ w) (append-nil (encoding p))

-- no encoding is a proper prefix of another
pub encoding_same : (p q : ℕ) (r s : List ℕ) → encoding p ++ r ≡ encoding q ++ s → (p ≡ q) × (r ≡ s)
encoding_same p q r s e =
    encode_same p q r s (ap (λ x. x ++ r) (sym (encoding_is_encode p)) ∙ (e ∙ ap (λ x. x ++ s) (encoding_is_encode q)))

-- What the first bytes of an encoding say about the code point.

pub front-encoding : (p : ℕ) (r : List ℕ) → IsCodePoint p → FirstPointByLead (encoding p ++ r) p (length (encoding p))
front-encoding p r range = grind (arith, encoding_cases, div-div-eq-div-mul)

-- bytes that begin with an encoding begin with that code point
abbrev pub begins_with : (p : ℕ) (r w : List ℕ) → IsCodePoint p → w ≡ encoding p ++ r → BeginsWithPoint w
begins_with p r w range e = record {
  point = p;
  rest = r;
  in_range = range;
  encoded = e;
  by_lead = subst (λ (v : List ℕ). FirstPointByLead v p (length (encoding p))) (sym e) (front-encoding p r range);
}

abbrev pub BeginsWithPoint-equal_bytes : {v w : List ℕ} → BeginsWithPoint v → w ≡ v → BeginsWithPoint w
BeginsWithPoint-equal_bytes b e = begins_with b.point b.rest _ b.in_range (e ∙ b.encoded)
