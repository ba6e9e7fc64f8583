-- Code points, code units and surrogates.
use Rattle.std.specs.Prelude.{ℕ, ◌+◌, ◌-◌, ◌*◌, ◌/◌, ◌%◌, ◌≤◌, List, [], ◌∷◌, nat_lt, if◌then◌else◌}
use Rattle.std.specs.List.{flat_map}

-- A UTF-16 code unit is a number of 16 bits (Unicode 3.9, "UTF-16"; WTF-8, "Terminology").
abbrev pub IsUnit : ℕ → Type 0
IsUnit n = n ≤ 0xFFFF

-- A code point is a number from 0 to 0x10FFFF (Unicode 3.4, "Characters and Encoding").
abbrev pub IsCodePoint : ℕ → Type 0
IsCodePoint n = n ≤ 0x10FFFF

-- A lead surrogate is a number from 0xD800 to 0xDBFF (Unicode 3.8, "Surrogates").
abbrev pub IsLead : ℕ → Type 0
IsLead n = (0xD800 ≤ n) × (n ≤ 0xDBFF)

-- A trail surrogate is a number from 0xDC00 to 0xDFFF (Unicode 3.8, "Surrogates").
abbrev pub IsTrail : ℕ → Type 0
IsTrail n = (0xDC00 ≤ n) × (n ≤ 0xDFFF)

-- A surrogate is a lead or a trail: a number from 0xD800 to 0xDFFF (Unicode 3.8, "Surrogates").
abbrev pub IsSurrogate : ℕ → Type 0
IsSurrogate n = (0xD800 ≤ n) × (n ≤ 0xDFFF)

-- A code point below 0x10000 is one unit of its value, any other a lead and a trail (Unicode 3.9, "UTF-16", Table 3-5).
unfoldable pub units_of : ℕ → List ℕ
units_of p = if nat_lt p 0x10000 then p ∷ [] else (0xD800 + (p - 0x10000) / 0x400) ∷ (0xDC00 + (p - 0x10000) % 0x400) ∷ []

-- The units of a list of code points: the units of each, in order (WTF-8, "Potentially ill-formed UTF-16").
abbrev pub units : List ℕ → List ℕ
units c = flat_map units_of c

-- The code point of a surrogate pair, a lead and a trail (Unicode 3.8, "Surrogates").
abbrev pub pair : ℕ → ℕ → ℕ
pair l t = 0x10000 + (l - 0xD800) * 0x400 + (t - 0xDC00)
