-- Lists of scalar values, and surrogates replaced by U+FFFD.
use Rattle.std.specs.Prelude.{ℕ, List, [], ◌∷◌, map, ⊤, ◌&&◌, nat_le, if◌then◌else◌}
use Rattle.wtf8.specs.Unicode.{IsSurrogate}

-- No code point of the list is a surrogate: each is a scalar value (Unicode 3.9, "Unicode scalar value").
abbrev pub AreScalar : List ℕ → Type 0
AreScalar [] = ⊤
AreScalar (p ∷ c) = ¬ (IsSurrogate p) × AreScalar c

-- A code point, or U+FFFD if it is a surrogate (Unicode 3.9, "U+FFFD Substitution").
unfoldable pub replace_surrogate : ℕ → ℕ
replace_surrogate p = if nat_le 0xD800 p && nat_le p 0xDFFF then 0xFFFD else p

-- The list with each surrogate replaced by U+FFFD (WTF-8, "Converting WTF-8 to UTF-8", lossily).
abbrev pub lossy_points : List ℕ → List ℕ
lossy_points c = map replace_surrogate c
