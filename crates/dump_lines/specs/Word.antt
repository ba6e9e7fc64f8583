-- The building call of a word.
use Rattle.std.specs.Prelude.{◌≡◌, ℕ, List, [], ◌∷◌, Option, Some, None, ◌==◌, ◌&&◌, nat_le, length, if◌then◌else◌, option_and_then}
use Rattle.std.specs.List.{list_all}
use Rattle.std.specs.Char.{is_digit}
use Rattle.std.specs.Str.Parse.{digits_value}
use Rattle.wtf8.specs.CodePoint.{number}
use Rattle.wtf8.specs.declared.buffers.build.Build.{Build}
use Rattle.wtf8.specs.declared.buffers.build.Build.TheVariants.{Push, Truncate, TruncateUnits}

-- The value of a word in a base, with letters of either case as digits, or `None` if a byte is no digit of that base.
abbrev pub number_in : ℕ → List ℕ → Option ℕ
number_in base word = if list_all (λ byte. is_digit byte base) word then Some (digits_value base word) else None

-- The value of a word of at least `least` and at most `most` digits in a base, or `None` for any other word.
abbrev pub bounded_number : ℕ → ℕ → ℕ → List ℕ → Option ℕ
bounded_number base least most word = if nat_le least (length word) && nat_le (length word) most then number_in base word else None

-- The value of one to nine decimal digits after the byte `sigil`, or `None` for any other word.
abbrev pub number_after : ℕ → List ℕ → Option ℕ
number_after sigil [] = None
number_after sigil (byte ∷ digits) = if byte == sigil then bounded_number 10 1 9 digits else None

-- The code point of a word: the value of four to six hexadecimal digits if it is at most 0x10FFFF, else `None`.
abbrev pub point_of : List ℕ → Option ℕ
point_of word = option_and_then (λ n. if nat_le n 0x10FFFF then Some n else None) (bounded_number 16 4 6 word)

-- The byte position of a word: the value of one to nine decimal digits after a hyphen, else `None`.
abbrev pub position_of : List ℕ → Option ℕ
position_of word = number_after 45 word

-- The number of units of a word: the value of one to nine decimal digits after a slash, else `None`.
abbrev pub unit_count_of : List ℕ → Option ℕ
unit_count_of word = number_after 47 word

-- The call of a word: the push of its code point, or the truncation at its byte position or its number of units.
abbrev pub IsCall : List ℕ → Build → Type 0
IsCall word (Push p) = point_of word ≡ Some (number p)
IsCall word (Truncate k) = position_of word ≡ Some k
IsCall word (TruncateUnits n) = unit_count_of word ≡ Some n
IsCall word call = ⊥

-- The word is malformed: it has no call.
abbrev pub IsNoCall : List ℕ → Type 0
IsNoCall word = (call : Build) → ¬ IsCall word call
