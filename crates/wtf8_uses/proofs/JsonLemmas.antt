-- JSON text that is appended, and code points that it does not escape.
use Rattle.std.proofs.Common.{◌≡◌, ◌≢◌, ℕ, ◌≤◌, refl, ◌∙◌, arith}
use Rattle.std.proofs.lemmas.Bool.Decides.{nat_tests}
use Rattle.std.specs.Char.{encode_utf8}
use Rattle.wtf8.specs.Form.{encoding}
use Rattle.wtf8.specs.Unicode.{IsSurrogate}
use Rattle.wtf8_uses.specs.Json.{json_point}

same_bytes : (p : ℕ) → encoding p ≡ encode_utf8 p
unfolding encoding encode_utf8
same_bytes p = refl

json_point-unescaped : (p : ℕ) → 0x20 ≤ p → p ≢ 0x22 → p ≢ 0x5C → ¬ (IsSurrogate p) → json_point p ≡ encoding p
unfolding json_point
json_point-unescaped p control quote backslash surrogate = grind (arith, nat_tests, control, quote, backslash, surrogate)

-- a scalar value from U+0020 on that is no quote or backslash is written as its UTF-8 bytes
pub json_point-bytes : (p : ℕ) → 0x20 ≤ p → p ≢ 0x22 → p ≢ 0x5C → ¬ (IsSurrogate p) → json_point p ≡ encode_utf8 p
json_point-bytes p control quote backslash surrogate = json_point-unescaped p control quote backslash surrogate ∙ same_bytes p
