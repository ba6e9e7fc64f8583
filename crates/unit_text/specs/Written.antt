-- Units that are written to a part of a slice.
use Rattle.std.specs.Prelude.{◌≡◌, ℕ, ◌+◌, List, ◌++◌, length, take, drop}

-- `new` is `old` in which `v` replaces the `length v` units from index `at` on.
pub record WritesAt (old : List ℕ) (at : ℕ) (v new : List ℕ) : Type 0 where
  pub front : take (at + length v) new ≡ take at old ++ v
  pub back : drop (at + length v) new ≡ drop (at + length v) old
  pub len : length new ≡ length old
