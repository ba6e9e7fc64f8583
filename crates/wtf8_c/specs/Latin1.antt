-- Units that are characters of Latin-1, or of ASCII.
use Rattle.std.specs.Prelude.{ℕ, ◌<◌, ◌≤◌, List, length, slice_index, take}
use Rattle.std.specs.List.{All}

-- Each unit is ASCII: below 80 (Unicode 2.0, "Basic Latin").
abbrev pub AreAscii : List ℕ → Type 0
AreAscii u = All (λ n. n < 0x80) u

-- Each unit is a character of Latin-1: at most FF (ISO/IEC 8859-1).
abbrev pub AreLatin1 : List ℕ → Type 0
AreLatin1 u = All (λ n. n ≤ 0xFF) u

-- The first `n` units are of Latin-1, and the next one, if there is one, is not (ISO/IEC 8859-1).
pub record EndsLatin1 (u : List ℕ) (n : ℕ) : Type 0 where
  pub within : n ≤ length u
  pub front : AreLatin1 (take n u)
  pub next : n < length u → 0xFF < slice_index u n
