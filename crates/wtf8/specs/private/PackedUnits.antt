-- The bytes that each unit adds: the last one, two or three of three, computed from the tagged unit and the one before.
use Rattle.std.specs.Prelude.{◌≡◌, ℕ, ◌+◌, ◌-◌, ◌*◌, ◌/◌, ◌%◌, ◌≤◌, List, [], ◌∷◌, ◌++◌, map, take, drop, get_or, nat_lt, if◌then◌else◌}
use lib.Lanes.{zip2}

-- The unit `n` between two others, 0x10000 above its value if it is a surrogate in no pair (Unicode 3.8, "Surrogates").
abbrev pub tagged : ℕ → ℕ → ℕ → ℕ
tagged before n after =
    if nat_lt n 0xD800 then n
    else if nat_lt n 0xDC00 then (if nat_lt after 0xDC00 then n + 0x10000 else if nat_lt after 0xE000 then n else n + 0x10000)
    else if nat_lt n 0xE000 then (if nat_lt before 0xD800 then n + 0x10000 else if nat_lt before 0xDC00 then n else n + 0x10000)
    else n

-- The units between `before` and `after`, each tagged.
abbrev pub tagged_units : ℕ → List ℕ → ℕ → List ℕ
tagged_units before [] after = []
tagged_units before (n ∷ u) after = tagged before n (get_or u 0 after) ∷ tagged_units n u after

-- The units, each tagged: the first is after no lead, and a lead at the end is half of a pair.
abbrev pub tagged_block : List ℕ → List ℕ
tagged_block u = tagged_units 0 u 0xDC00

-- The first of a unit's three bytes; an encoding of fewer bytes is the last ones (Unicode 3.9, "UTF-8", Table 3-6).
abbrev pub first_byte : ℕ → ℕ
first_byte n = 0xE0 + n / 4096 % 16

-- The second of the three bytes of a unit that is no surrogate.
abbrev pub scalar_second_byte : ℕ → ℕ
scalar_second_byte n = (if nat_lt n 0x800 then 0xC0 else 0x80) + n / 64 % 64

-- The first and the second of the three bytes of a unit that is no surrogate, as a number of two bytes.
abbrev pub scalar_head : ℕ → ℕ
scalar_head n = first_byte n + scalar_second_byte n * 256

-- The last of the three bytes of a unit that is no surrogate.
abbrev pub scalar_last_byte : ℕ → ℕ
scalar_last_byte n = if nat_lt n 0x80 then n else 0x80 + n % 64

-- The second of the three bytes of a unit after `before`; of a pair's four bytes the lead adds two, then the trail two.
abbrev pub second_byte : ℕ → ℕ → ℕ
second_byte before n =
    if nat_lt n 0xD800 then scalar_second_byte n
    else if nat_lt n 0xDC00 then 0xF0 + (n - 0xD7C0) / 256
    else if nat_lt n 0xE000 then 0x80 + before % 4 * 16 + n / 64 % 16
    else scalar_second_byte n

-- The last of the three bytes of a unit.
abbrev pub last_byte : ℕ → ℕ
last_byte n =
    if nat_lt n 0xD800 then scalar_last_byte n
    else if nat_lt n 0xDC00 then 0x80 + (n - 0xD7C0) / 4 % 64
    else scalar_last_byte n

-- 1 if the unit adds three bytes, else 0.
abbrev pub three_byte_bit : ℕ → ℕ
three_byte_bit n = if nat_lt n 0x800 then 0 else if nat_lt n 0xD800 then 1 else if nat_lt n 0xE000 then 0 else 1

-- The number of bytes that a unit adds.
abbrev pub byte_count : ℕ → ℕ
byte_count n = (if nat_lt n 0x80 then 1 else 2) + three_byte_bit n

-- 0x8000 if a unit that is no half of a pair adds three bytes, else 0.
abbrev pub three_byte_flag : ℕ → ℕ
three_byte_flag n = (if nat_lt n 0x800 then 0 else 1) * 0x8000

-- The first and the second byte of each unit, as if after a 0; the last bytes, 0x8000 higher if the unit adds three bytes.
pub record AreUnitBytes (u heads lasts : List ℕ) : Type 0 where
  pub head : heads ≡ zip2 (λ before n. first_byte n + second_byte before n * 256) (0 ∷ u) u
  pub last : lasts ≡ map (λ n. last_byte n + three_byte_bit n * 0x8000) u

-- The bytes that the unit `n` adds after the unit `before`.
abbrev pub packed_unit : ℕ → ℕ → List ℕ
packed_unit before n = drop (3 - byte_count n) (first_byte n ∷ second_byte before n ∷ last_byte n ∷ [])

-- The bytes that the units add after the unit `before`.
abbrev pub packed_units : ℕ → List ℕ → List ℕ
packed_units before [] = []
packed_units before (n ∷ u) = packed_unit before n ++ packed_units n u

-- The three bytes of each of the units after `before`, and after them 0x80 if it adds three bytes, else 0.
abbrev pub byte_lanes : ℕ → List ℕ → List ℕ
byte_lanes before [] = []
byte_lanes before (n ∷ u) = first_byte n ∷ second_byte before n ∷ last_byte n ∷ (three_byte_bit n * 0x80) ∷ byte_lanes n u

-- The table index for some lengths: bit `2 * k` is set if length `k` is above one, bit `2 * k + 1` if it is three.
abbrev pub table_index : List ℕ → ℕ
table_index [] = 0
table_index (n ∷ lens) = n / 2 + n / 3 * 2 + 4 * table_index lens

-- The table index for the lengths of some units.
abbrev pub units_table_index : List ℕ → ℕ
units_table_index u = table_index (map byte_count u)

-- The lanes of the bytes of units of some lengths: of the first unit the last ones of three from lane `k` on.
abbrev pub source_lanes : ℕ → List ℕ → List ℕ
source_lanes k [] = []
source_lanes k (n ∷ lens) = drop (3 - n) (k ∷ (1 + k) ∷ (2 + k) ∷ []) ++ source_lanes (4 + k) lens

-- A length is one, two or three.
abbrev pub IsByteCount : ℕ → Type 0
IsByteCount n = (1 ≤ n) × (n ≤ 3)

-- The row at table index `number` begins with the lanes of the bytes of four units of these lengths, in order.
abbrev pub IsPackingShuffle : ℕ → List ℕ → Type 0
IsPackingShuffle number row = (a b c d : ℕ) → IsByteCount a → IsByteCount b → IsByteCount c → IsByteCount d
    → number ≡ table_index (a ∷ b ∷ c ∷ d ∷ []) → take (a + b + c + d) row ≡ source_lanes 0 (a ∷ b ∷ c ∷ d ∷ [])

-- The count at table index `number` is the sum of the four lengths.
abbrev pub IsPackedLen : ℕ → ℕ → Type 0
IsPackedLen number count = (a b c d : ℕ) → IsByteCount a → IsByteCount b → IsByteCount c → IsByteCount d
    → number ≡ table_index (a ∷ b ∷ c ∷ d ∷ []) → count ≡ a + b + c + d
