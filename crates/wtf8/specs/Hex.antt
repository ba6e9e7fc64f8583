-- Hexadecimal text.
use Rattle.std.specs.Prelude.{ℕ, ◌+◌, ◌/◌, ◌%◌, List, [], ◌∷◌, nat_lt, if◌then◌else◌}
use Rattle.std.specs.List.{join_by}

-- The upper-case hexadecimal digit of a number below 16, in ASCII.
unfoldable pub digit : ℕ → ℕ
digit n = if nat_lt n 10 then 48 + n else 55 + n

-- A byte as two upper-case hexadecimal digits.
abbrev pub hex_of : ℕ → List ℕ
hex_of b = digit (b / 16) ∷ digit (b % 16) ∷ []

-- Bytes as hexadecimal text, with one space between two bytes.
abbrev pub hex : List ℕ → List ℕ
hex w = join_by hex_of (32 ∷ []) w
