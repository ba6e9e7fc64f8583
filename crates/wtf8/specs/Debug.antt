-- The debug texts of code points and of strings.
use Rattle.std.specs.Prelude.{ℕ, ◌/◌, ◌%◌, List, [], ◌∷◌, ◌++◌, nat_lt, nat_le, ◌&&◌, if◌then◌else◌, codes}
use Rattle.std.specs.List.{flat_map}
use Rattle.wtf8.specs.Form.{encoding}
use Rattle.wtf8.specs.Hex.{digit}

-- The last four hexadecimal digits of a number, in upper case.
abbrev pub last_four_digits : ℕ → List ℕ
last_four_digits n = digit (n / 0x1000 % 16) ∷ digit (n / 0x100 % 16) ∷ digit (n / 0x10 % 16) ∷ digit (n % 16) ∷ []

-- The value of a code point in upper-case hexadecimal, padded with zeros to at least four digits.
unfoldable pub upper_hex : ℕ → List ℕ
upper_hex n =
    if nat_lt n 0x10000 then last_four_digits n
    else if nat_lt n 0x100000 then digit (n / 0x10000) ∷ last_four_digits n
    else digit (n / 0x100000) ∷ digit (n / 0x10000 % 16) ∷ last_four_digits n

-- The debug text of a code point: `U+`, then its value in hexadecimal.
abbrev pub debug_point : ℕ → List ℕ
debug_point p = codes "U+" ++ upper_hex p

-- A code point in the debug text of a string: a surrogate as `\u{`, its hexadecimal value, `}`, another as its bytes.
unfoldable pub escape_surrogate : ℕ → List ℕ
escape_surrogate p = if nat_le 0xD800 p && nat_le p 0xDFFF then codes "\\u{" ++ upper_hex p ++ codes "}" else encoding p

-- The debug text of a string: its code points between double quotes, with only surrogates escaped.
abbrev pub debug : List ℕ → List ℕ
debug c = codes "\"" ++ flat_map escape_surrogate c ++ codes "\""
