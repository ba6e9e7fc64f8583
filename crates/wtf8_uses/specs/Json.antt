-- JSON text of strings, as ECMAScript writes it.
use Rattle.std.specs.Prelude.{◌≡◌, ℕ, ◌+◌, ◌/◌, ◌%◌, ◌==◌, ◌&&◌, ◌||◌, Bool, List, [], ◌∷◌, ◌++◌, nat_lt, nat_le, if◌then◌else◌, codes}
use Rattle.std.specs.List.{flat_map}
use Rattle.wtf8.specs.Form.{encoding}

-- The lower-case hexadecimal digit of a number below 16: 0 to 9, then a to f.
abbrev pub small_digit : ℕ → ℕ
small_digit n = if nat_lt n 10 then 48 + n else 87 + n

-- The escape of a unit: `\u` and four lower-case hexadecimal digits (ECMAScript, "UnicodeEscape").
abbrev pub unit_escape : ℕ → List ℕ
unit_escape u =
    codes "\\u" ++ small_digit (u / 0x1000) ∷ small_digit (u / 0x100 % 16) ∷ small_digit (u / 0x10 % 16) ∷ small_digit (u % 16) ∷ []

-- Whether a code point is a control character below U+0020 or a surrogate (ECMAScript, "QuoteJSONString").
abbrev pub is_escaped : ℕ → Bool
is_escaped p = nat_lt p 0x20 || (nat_le 0xD800 p && nat_le p 0xDFFF)

-- A code point in JSON text: its escape, or else its bytes (ECMAScript, "QuoteJSONString" and its table of escapes).
unfoldable pub json_point : ℕ → List ℕ
json_point p =
    if p == 0x08 then codes "\\b"
    else if p == 0x09 then codes "\\t"
    else if p == 0x0A then codes "\\n"
    else if p == 0x0C then codes "\\f"
    else if p == 0x0D then codes "\\r"
    else if p == 0x22 then codes "\\\""
    else if p == 0x5C then codes "\\\\"
    else if is_escaped p then unit_escape p
    else encoding p

-- The JSON text of code points, between double quotes (ECMAScript, "QuoteJSONString").
abbrev pub json : List ℕ → List ℕ
json c = codes "\"" ++ flat_map json_point c ++ codes "\""

-- `text` begins with `front`.
pub record Continues (front text : List ℕ) : Type 0 where
  pub more : List ℕ
  pub joined : text ≡ front ++ more
