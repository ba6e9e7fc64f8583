-- Writing at the front of a slice.
use Rattle.std.specs.Prelude.{ℕ, List, ◌++◌, length, drop}

-- The slice `out` with the numbers `v` over its front.
abbrev pub with_front : List ℕ → List ℕ → List ℕ
with_front v out = v ++ drop (length v) out
