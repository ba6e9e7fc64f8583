-- The marks that a text keeps.
use Rattle.std.specs.Prelude.{◌≢◌, ℕ, ◌+◌, ◌*◌, ◌<◌, ◌≤◌, List, length, slice_index_or}
use Rattle.wtf8.specs.UnitMark.{IsMark}
use Rattle.wtf8.specs.declared.units.marks.UnitMark.{UnitMark}

-- The number of units from one mark to the next.
abbrev pub spacing : ℕ
spacing = 128

-- A mark at `n` units or one fewer, before the last unit, so that it stays valid when units are appended.
pub record IsKept (w u : List ℕ) (n : ℕ) (mark : UnitMark) : Type 0 where
  pub is_mark : IsMark w u mark.position mark.units
  pub at_most : mark.units ≤ n
  pub at_least : n ≤ mark.units + 1
  pub before_last : mark.units < length u

-- Mark `k` of the list is at `k + 1` times the spacing, or one unit before that.
abbrev pub AreKept : List ℕ → List ℕ → List UnitMark → Type 0
AreKept w u marks = (k : ℕ) (d : UnitMark) → k < length marks → IsKept w u ((k + 1) * spacing) (slice_index_or marks k d)

-- If the lengths in bytes and in units differ, `count` is at least the number of multiples of the spacing, from the
-- first one on, that are below the length in units.
abbrev pub AreEnough : List ℕ → List ℕ → ℕ → Type 0
AreEnough w u count = (length w ≢ length u) → (n : ℕ) → n * spacing < length u → n ≤ count

-- `AreKept` holds of the marks and, if there are fewer than `capacity` marks, `AreEnough` holds of their number.
pub record AreMarks (w u : List ℕ) (marks : List UnitMark) (capacity : ℕ) : Type 0 where
  pub kept : AreKept w u marks
  pub all : length marks < capacity → AreEnough w u (length marks)
