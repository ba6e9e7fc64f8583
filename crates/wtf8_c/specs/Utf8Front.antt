-- The front of bytes that is UTF-8, and what follows it.
use Rattle.std.specs.Prelude.{ℕ, List, take, drop}
use Rattle.std.specs.Option.{unwrap_or}
use Rattle.std.specs.Str.Lossy.{utf8_valid_len, utf8_error_len}

-- The longest front of `w` that is UTF-8 (Unicode 3.9, "UTF-8", Table 3-7).
abbrev pub utf8_front : List ℕ → List ℕ
utf8_front w = take (utf8_valid_len w) w

-- How many bytes after that front are wrong together, or 0 if `w` ends before that is known (Unicode 3.9, "U+FFFD
-- Substitution of Maximal Subparts").
abbrev pub bad_len : List ℕ → ℕ
bad_len w = unwrap_or (utf8_error_len (drop (utf8_valid_len w) w)) 0
