-- Laws of the bytes and the units of one code point.
use Rattle.std.specs.Prelude.{◌≡◌, ℕ, ◌<◌, [], ◌∷◌}
use Rattle.std.specs.Char.{encode_utf8}
use Rattle.wtf8.specs.Form.{encoding}
use Rattle.wtf8.specs.Unicode.{IsLead, IsTrail, IsSurrogate, units_of, pair}

-- The encoding of a code point below 0x80 is the byte of that value.
abbrev pub AsciiIsOneByte : Type 0
AsciiIsOneByte = (p : ℕ) → p < 0x80 → encoding p ≡ p ∷ []

-- The encoding of a scalar value is its UTF-8.
abbrev pub ScalarsAreInUtf8 : Type 0
ScalarsAreInUtf8 = (p : ℕ) → ¬ (IsSurrogate p) → encoding p ≡ encode_utf8 p

-- A code point below 0x10000 is the unit of that value.
abbrev pub LowPointsAreOneUnit : Type 0
LowPointsAreOneUnit = (p : ℕ) → p < 0x10000 → units_of p ≡ p ∷ []

-- The units of the code point of a lead and a trail are these two.
abbrev pub PairsAreTwoUnits : Type 0
PairsAreTwoUnits = (l t : ℕ) → IsLead l → IsTrail t → units_of (pair l t) ≡ l ∷ t ∷ []
