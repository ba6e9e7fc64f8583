-- The longest front of bytes that is UTF-8.
use Rattle.std.proofs.Common.{◌≡◌, ℕ, List, ap, arith, IsUtf8}
use Rattle.std.proofs.lemmas.List.{take_all, drop_all}
use Rattle.std.proofs.lemmas.Str.{utf8_valid_len-IsUtf8}
use Rattle.std.specs.Option.{unwrap_or}
use Rattle.std.specs.Str.Lossy.{utf8_valid_len, utf8_error_len}
use Rattle.wtf8_c.specs.Utf8Front.{utf8_front, bad_len}

-- of a text it is all of it
pub utf8_front-text : (w : List ℕ) → IsUtf8 w → utf8_front w ≡ w
utf8_front-text w u = take_all (utf8_valid_len w) w (omega (arith, utf8_valid_len-IsUtf8 w u))

-- and no byte is bad
pub bad_len-text : (w : List ℕ) → IsUtf8 w → bad_len w ≡ 0
unfolding utf8_error_len
bad_len-text w u = ap (λ l. unwrap_or (utf8_error_len l) 0) (drop_all (utf8_valid_len w) w (omega (arith, utf8_valid_len-IsUtf8 w u)))
