-- Writing at the front of a slice.
use Rattle.std.specs.Prelude.{ℕ, List, ◌++◌, length, drop, nat_le, if◌then◌else◌}

-- The slice `out` with `bytes` over its front if they fit, else unchanged.
abbrev pub with_front : List ℕ → List ℕ → List ℕ
with_front bytes out = if nat_le (length bytes) (length out) then bytes ++ drop (length bytes) out else out
