-- Strings in JSON text (RFC 8259, section 7).
use Rattle.std.specs.Prelude.{◌≡◌, ◌≢◌, ◌≤◌, ◌<◌, ◌+◌, ◌-◌, ◌*◌, ◌==◌, ◌&&◌, ℕ, List, [], ◌∷◌, ◌++◌, Option, Some, None, nat_le, length}
use Rattle.std.specs.Prelude.{if◌then◌else◌}
use Rattle.wtf8.specs.Form.{bytes}
use Rattle.wtf8.specs.Unicode.{units_of}
use Rattle.wtf8_uses.specs.declared.json_reader.JsonCause.{JsonCause}
use Rattle.wtf8_uses.specs.declared.json_reader.JsonCause.TheVariants.{NotOpened, NotClosed, ControlCharacter, Escape}

-- A character that may be unescaped: any but quotation marks, reverse solidi and control characters below U+0020 (RFC
-- 8259, section 7, "unescaped").
pub record IsUnescaped (p : ℕ) : Type 0 where
  pub no_control : 0x20 ≤ p
  pub no_quote : p ≢ 0x22
  pub no_backslash : p ≢ 0x5C

-- The character of an escape of two characters, by the second of these (RFC 8259, section 7, "char").
unfoldable pub escaped : ℕ → Option ℕ
escaped letter =
    if letter == 0x22 then Some 0x22
    else if letter == 0x5C then Some 0x5C
    else if letter == 0x2F then Some 0x2F
    else if letter == 0x62 then Some 0x08
    else if letter == 0x66 then Some 0x0C
    else if letter == 0x6E then Some 0x0A
    else if letter == 0x72 then Some 0x0D
    else if letter == 0x74 then Some 0x09
    else None

-- The value of a hexadecimal digit, of either case (RFC 5234, appendix B.1, "HEXDIG").
unfoldable pub digit_value : ℕ → Option ℕ
digit_value digit =
    if nat_le 0x30 digit && nat_le digit 0x39 then Some (digit - 0x30)
    else if nat_le 0x41 digit && nat_le digit 0x46 then Some (digit - 0x37)
    else if nat_le 0x61 digit && nat_le digit 0x66 then Some (digit - 0x57)
    else None

-- `after` is `text` without the hexadecimal digit of this value at its front.
pub record BeginsWithDigit (text : List ℕ) (value : ℕ) (after : List ℕ) : Type 0 where
  pub digit : ℕ
  pub joined : text ≡ digit ∷ after
  pub is_value : digit_value digit ≡ Some value

-- `after` is `text` without the four hexadecimal digits of `unit` at its front (RFC 8259, section 7, "4HEXDIG").
pub record BeginsWithUnit (text : List ℕ) (unit : ℕ) (after : List ℕ) : Type 0 where
  pub a : ℕ
  pub b : ℕ
  pub c : ℕ
  pub d : ℕ
  pub after_a : List ℕ
  pub after_b : List ℕ
  pub after_c : List ℕ
  pub first : BeginsWithDigit text a after_a
  pub second : BeginsWithDigit after_a b after_b
  pub third : BeginsWithDigit after_b c after_c
  pub fourth : BeginsWithDigit after_c d after
  pub is_unit : unit ≡ ((a * 16 + b) * 16 + c) * 16 + d

-- `after` is `text` without the rest of an escape at its front, which follows a reverse solidus and stands for `p` (RFC
-- 8259, section 7, "char").
pub data EndsEscape (text : List ℕ) (p : ℕ) (after : List ℕ) : Type 0 where
  letter : (l : ℕ) → text ≡ l ∷ after → escaped l ≡ Some p → EndsEscape text p after
  unit : (l : ℕ) (digits : List ℕ) → text ≡ l ∷ digits → l ≡ 0x75 → BeginsWithUnit digits p after → EndsEscape text p after

-- `after` is `text` without the character or escape at its front, which stands for `p` (RFC 8259, section 7, "char").
pub data BeginsWithCharacter (text : List ℕ) (p : ℕ) (after : List ℕ) : Type 0 where
  unescaped : text ≡ p ∷ after → IsUnescaped p → BeginsWithCharacter text p after
  escape : (b : ℕ) (rest : List ℕ) → text ≡ b ∷ rest → b ≡ 0x5C → EndsEscape rest p after → BeginsWithCharacter text p after

-- `after` is `text` without the quotation mark at its front.
pub record BeginsWithQuote (text after : List ℕ) : Type 0 where
  pub quote : ℕ
  pub joined : text ≡ quote ∷ after
  pub is_quote : quote ≡ 0x22

-- `text` begins with characters and escapes, which stand for the units `u`; `after` follows them (RFC 8259, section 7,
-- "string").
pub data BeginsWithCharacters : List ℕ → List ℕ → List ℕ → Type 0 where
  none : (text : List ℕ) → BeginsWithCharacters text [] text
  more : (text rest u after : List ℕ) (p : ℕ) → BeginsWithCharacter text p rest → BeginsWithCharacters rest u after
      → BeginsWithCharacters text (units_of p ++ u) after

-- `text` begins with a JSON string of the units `u`; `after` follows it (RFC 8259, section 7, "string").
pub record BeginsWithString (text u after : List ℕ) : Type 0 where
  pub start : List ℕ
  pub end : List ℕ
  pub opened : BeginsWithQuote text start
  pub characters : BeginsWithCharacters start u end
  pub closed : BeginsWithQuote end after

-- `after` is `text` without its first `n` bytes.
pub record FollowsBytes (text : List ℕ) (n : ℕ) (after : List ℕ) : Type 0 where
  pub front : List ℕ
  pub joined : text ≡ front ++ after
  pub counted : length (bytes front) ≡ n

-- At byte `n` of `text` is what cannot be there in a JSON string: at the start no quotation mark, or after one and all
-- characters and escapes that follow it no other quotation mark.
pub data IsMalformedAt (text : List ℕ) (n : ℕ) : Type 0 where
  not_opened : n ≡ 0 → ((after : List ℕ) → ¬ (BeginsWithQuote text after)) → IsMalformedAt text n
  stopped : (start u rest : List ℕ) → FollowsBytes text n rest → BeginsWithQuote text start → BeginsWithCharacters start u rest
      → ((p : ℕ) (after : List ℕ) → ¬ (BeginsWithCharacter rest p after)) → ((after : List ℕ) → ¬ (BeginsWithQuote rest after))
      → IsMalformedAt text n

-- `rest` begins as the cause says: with no quotation mark, with nothing, with a control character below U+0020, or with a
-- reverse solidus.
abbrev pub IsCause : JsonCause → List ℕ → Type 0
IsCause NotOpened rest = (after : List ℕ) → ¬ (BeginsWithQuote rest after)
IsCause NotClosed rest = rest ≡ []
IsCause ControlCharacter rest = (p : ℕ) × (after : List ℕ) × (rest ≡ p ∷ after) × (p < 0x20)
IsCause Escape rest = (p : ℕ) × (after : List ℕ) × (rest ≡ p ∷ after) × (p ≡ 0x5C)

-- The text after the first `n` bytes of `text` begins as the cause says.
pub record HasCauseAt (text : List ℕ) (n : ℕ) (cause : JsonCause) : Type 0 where
  pub rest : List ℕ
  pub follows : FollowsBytes text n rest
  pub is_cause : IsCause cause rest
