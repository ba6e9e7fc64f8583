-- Bytes that are no text, and the text that is made of them.
use Rattle.std.specs.Prelude.{◌≡◌, ℕ, ◌<◌, ◌≤◌, List, length, drop, None}
use Rattle.std.specs.Str.{chars, IsUtf8}
use Rattle.std.specs.Str.Lossy.{utf8_lossy, utf8_valid_len, utf8_error_len}
use Rattle.wtf8.specs.Utf8Error.{valid_up_to, error_len}
use Rattle.wtf8.specs.declared.buffers.text.TextError.{TextError}
use Rattle.wtf8.specs.declared.buffers.text.TextError.TheVariants.{NotUtf8, Refused}

-- The error tells how many bytes at the front are UTF-8 and how many after these are wrong together (Unicode 3.9,
-- "U+FFFD Substitution of Maximal Subparts"), or else all are UTF-8 and memory was refused.
abbrev pub Tells : List ℕ → TextError → Type 0
Tells w (NotUtf8 e) = ¬ (IsUtf8 w) × (valid_up_to e ≡ utf8_valid_len w) × (error_len e ≡ utf8_error_len (drop (utf8_valid_len w) w))
Tells w (Refused e) = IsUtf8 w

-- The characters of bytes read as UTF-8, with U+FFFD for each maximal part that is not UTF-8, as the standard library's
-- `String::from_utf8_lossy` gives them (Unicode 3.9, "U+FFFD Substitution of Maximal Subparts").
abbrev pub lossy_chars : List ℕ → List ℕ
lossy_chars w = chars (utf8_lossy w)

-- Bytes that begin a code point and end before it is whole (Unicode 3.9, "U+FFFD Substitution of Maximal Subparts").
abbrev pub IsUnfinished : List ℕ → Type 0
IsUnfinished w = (0 < length w) × (utf8_valid_len w ≡ 0) × (utf8_error_len w ≡ None)

-- The first `n` bytes of `w` are all but the unfinished code point at its end, if there is one.
pub record LeavesUnfinished (w : List ℕ) (n : ℕ) : Type 0 where
  pub within : n ≤ length w
  pub rest : n < length w → IsUnfinished (drop n w)
  pub only : (k : ℕ) → IsUnfinished (drop k w) → k ≡ n
