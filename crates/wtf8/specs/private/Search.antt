-- The first index with a property: of lists, of two lists that differ, and of the lanes of a mask.
use lib.Lanes.{mask_l}
use Rattle.std.specs.Prelude.{◌≡◌, ◌≢◌, ℕ, ◌+◌, ◌%◌, ◌^◌, ◌<◌, ◌≤◌, Bool, false, List, length, map, leb, take, get_or, slice_index, IsTrue}
use Rattle.std.specs.Prelude.{MatchBool, Option, MatchOption}

-- No index in `from..end` has the property `P`.
abbrev pub NoneIn : (ℕ → Type 0) → ℕ → ℕ → Type 0
NoneIn P from end = (j : ℕ) → from ≤ j → j < end → ¬ (P j)

-- `i` is the first index at or after `from` with the property `P`.
pub record IsLeast (P : ℕ → Type 0) (from i : ℕ) : Type 0 where
  pub not_before : from ≤ i
  pub here : P i
  pub none_between : NoneIn P from i

-- The result is the first index at or after `from` with the property `P`, or `None` if there is none.
abbrev pub IsFirst : (ℕ → Type 0) → ℕ → Option ℕ → Type 0
IsFirst P from r = MatchOption r ((j : ℕ) → from ≤ j → ¬ (P j)) (IsLeast P from)

-- The result is the first index in `from..end` with the property `P`, or `None` if there is none.
abbrev pub IsFirstIn : (ℕ → Type 0) → ℕ → ℕ → Option ℕ → Type 0
IsFirstIn P from end r = MatchOption r (NoneIn P from end) (λ i. IsLeast P from i × (i < end))

-- Lane `k` of the mask is set.
abbrev pub IsSet : List Bool → ℕ → Type 0
IsSet lanes k = IsTrue (get_or lanes k false)

-- The result is the first set lane of any mask of up to 64 lanes with these bits, or `None` if no lane is set.
abbrev pub IsFirstSet : ℕ → Option ℕ → Type 0
IsFirstSet bits r = (n : ℕ) (lanes : List Bool) → n ≤ 64 → length lanes ≡ n → bits ≡ mask_l lanes % 2 ^ 64 → IsFirstIn (IsSet lanes) 0 n r

-- The lists are equal before index `i`, and there their numbers differ or one of the lists ends.
pub record IsMismatch (w v : List ℕ) (i : ℕ) : Type 0 where
  pub within_first : i ≤ length w
  pub within_second : i ≤ length v
  pub same_before : take i w ≡ take i v
  pub differ_there : i < length w → i < length v → slice_index w i ≢ slice_index v i

-- Bit `k` of the mask is set if the unit `k` is not ASCII.
abbrev pub IsNonAsciiMask : ℕ → List ℕ → Type 0
IsNonAsciiMask bits u = bits ≡ mask_l (map (leb 0x80) u)

-- The unit is not ASCII, and below the surrogates.
abbrev pub IsTwoOrThreeBytes : ℕ → Type 0
IsTwoOrThreeBytes n = (0x80 ≤ n) × (n < 0xD800)

-- The numbers of the two lists at index `i` differ.
abbrev pub DifferAt : List ℕ → List ℕ → ℕ → Type 0
DifferAt w v i = slice_index w i ≢ slice_index v i

-- The byte at index `i` is at least 0xF0, so it leads a code point of two units (Unicode 3.9, "UTF-8", Table 3-6).
abbrev pub SupplementaryBegins : List ℕ → ℕ → Type 0
SupplementaryBegins w i = (i < length w) × (0xF0 ≤ slice_index w i)

-- If `clear` is true, no index in `from..end` has the property `P`; if it is false, some has.
abbrev pub DecidesNone : (ℕ → Type 0) → ℕ → ℕ → Bool → Type 0
DecidesNone P from end clear = MatchBool clear (NoneIn P from end) (¬ (NoneIn P from end))

-- The bytes of a surrogate begin at index `i`: 0xED, then a byte of at least 0xA0 (WTF-8, "Surrogate byte sequence").
pub record SurrogateAt (w : List ℕ) (i : ℕ) : Type 0 where
  pub within : i + 1 < length w
  pub first : slice_index w i ≡ 0xED
  pub second : 0xA0 ≤ slice_index w (i + 1)

-- Lane `k` is 0xED in the first vector and at least 0xA0 in the second.
abbrev pub SurrogateInLane : List ℕ → List ℕ → ℕ → Type 0
SurrogateInLane firsts seconds k = (slice_index firsts k ≡ 0xED) × (0xA0 ≤ slice_index seconds k)
