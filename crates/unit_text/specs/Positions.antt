-- Byte positions in a text, and the units before them.
use Rattle.std.specs.Prelude.{ℕ, ◌≤◌, List, length, take}
use Rattle.wtf8.specs.Position.{IsBoundary, IsFront}

-- The first `n` units are the units before the last boundary at or before byte position `k` (Unicode 3.9, boundaries of
-- code unit sequences).
pub record AreUnitsBefore (u : List ℕ) (k n : ℕ) : Type 0 where
  pub boundary : ℕ
  pub within : n ≤ length u
  pub front : IsFront u boundary (take n u)
  pub at_or_before : boundary ≤ k
  pub last : (m : ℕ) → IsBoundary u m → m ≤ k → m ≤ boundary
