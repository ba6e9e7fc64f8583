-- The well-formed WTF-8 form of a list of code units.
use Rattle.std.specs.Prelude.{◌≡◌, ℕ, ◌+◌, ◌/◌, ◌%◌, List, [], ◌∷◌, nat_lt, if◌then◌else◌, ⊤}
use Rattle.std.specs.List.{flat_map}
use Rattle.wtf8.specs.Unicode.{IsCodePoint, IsLead, IsTrail, units}

-- A list is clean if its numbers are code points and no lead is directly followed by a trail (WTF-8, "Well-formed").
abbrev pub IsClean : List ℕ → Type 0
IsClean [] = ⊤
IsClean (p ∷ []) = IsCodePoint p
IsClean (p ∷ q ∷ c) = IsCodePoint p × ¬ (IsLead p × IsTrail q) × IsClean (q ∷ c)

-- `c` is a reading of `u`: a clean list of code points with the units `u` (WTF-8, "Potentially ill-formed UTF-16").
pub record Reads (c u : List ℕ) : Type 0 where
  pub clean : IsClean c
  pub same_units : units c ≡ u

-- The bytes of a code point, surrogates included (WTF-8, "Generalized UTF-8"; Unicode 3.9, "UTF-8", Table 3-6).
unfoldable pub encoding : ℕ → List ℕ
encoding p =
    if nat_lt p 0x80 then p ∷ []
    else if nat_lt p 0x800 then (0xC0 + p / 64) ∷ (0x80 + p % 64) ∷ []
    else if nat_lt p 0x10000 then (0xE0 + p / 4096) ∷ (0x80 + p / 64 % 64) ∷ (0x80 + p % 64) ∷ []
    else (0xF0 + p / 262144) ∷ (0x80 + p / 4096 % 64) ∷ (0x80 + p / 64 % 64) ∷ (0x80 + p % 64) ∷ []

-- The bytes of a list of code points: their encodings, in order (WTF-8, "Generalized UTF-8").
abbrev pub bytes : List ℕ → List ℕ
bytes c = flat_map encoding c

-- Bytes are well-formed WTF-8 if they are the bytes of a clean list of code points (WTF-8, "Well-formed").
pub record IsWellFormed (w : List ℕ) : Type 0 where
  pub points : List ℕ
  pub clean : IsClean points
  pub encoded : bytes points ≡ w

-- The bytes `w` are the form of the units `u` if they encode a reading of `u` (WTF-8, "Converting between WTF-8 and
-- potentially ill-formed UTF-16").
pub record IsForm (w u : List ℕ) : Type 0 where
  pub points : List ℕ
  pub reads : Reads points u
  pub encoded : bytes points ≡ w
