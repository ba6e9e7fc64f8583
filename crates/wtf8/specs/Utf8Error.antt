-- The parts of a `Utf8Error`, and its text.
use Rattle.std.specs.Prelude.{ℕ, List, ◌++◌, codes, decimal, Option, Some, None}
use Rattle.wtf8.specs.declared.lanes.utf8_error.Utf8Error.{Utf8Error}

abbrev pub valid_up_to : Utf8Error → ℕ
valid_up_to e = e.valid_up_to

abbrev pub error_len : Utf8Error → Option ℕ
error_len e = e.error_len

-- What `{}` writes of an error at that index, with that many bytes wrong together.
abbrev pub error_text : ℕ → Option ℕ → List ℕ
error_text at None = codes "incomplete utf-8 byte sequence from index " ++ decimal at
error_text at (Some n) = codes "invalid utf-8 sequence of " ++ (decimal n ++ (codes " bytes from index " ++ decimal at))
