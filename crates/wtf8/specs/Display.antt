-- The text that a string is displayed as.
use Rattle.std.specs.Prelude.{ℕ, List, if◌then◌else◌}
use Rattle.std.specs.Str.{all_scalars}
use Rattle.wtf8.specs.Form.{bytes}
use Rattle.wtf8.specs.Surrogates.{lossy_points}

-- What a formatter writes for the code points `c`: if all are scalar values, `styled`, their text with the width, fill
-- and precision asked for; else their lossy text, without these (WTF-8, "Converting WTF-8 to UTF-8", lossily).
abbrev pub display_output : List ℕ → List ℕ → List ℕ
display_output c styled = if all_scalars c then styled else bytes (lossy_points c)
