-- Lines of a string, and marks at their starts.
use Rattle.std.specs.Prelude.{◌≡◌, ℕ, ◌+◌, ◌<◌, ◌≤◌, ◌==◌, List, [], ◌∷◌, length, slice_index_or, if◌then◌else◌}
use Rattle.wtf8.specs.Position.{IsBoundary}
use Rattle.wtf8.specs.UnitMark.{IsMark}
use Rattle.wtf8.specs.Types.{UnitMark}

-- Each mark of the list is one of the bytes `w` and units `u`.
abbrev pub AreMarksOf : List ℕ → List ℕ → List UnitMark → Type 0
AreMarksOf w u marks =
    (k : ℕ) (d : UnitMark) → k < length marks → IsMark w u (slice_index_or marks k d).position (slice_index_or marks k d).units

-- The number of units before a mark.
abbrev pub mark_units : UnitMark → ℕ
mark_units mark = mark.units

-- The indexes after the line feeds of units that come after `n` others.
abbrev pub starts_after : ℕ → List ℕ → List ℕ
starts_after n [] = []
starts_after n (x ∷ u) = if x == 0x0A then (n + 1) ∷ starts_after (n + 1) u else starts_after (n + 1) u

-- The unit indexes at which lines start: 0, and the index after each line feed (Unicode 5.8, "Newline Guidelines").
abbrev pub line_starts : List ℕ → List ℕ
line_starts u = 0 ∷ starts_after 0 u

-- The unit index at which the line with a number starts.
abbrev pub line_start : List UnitMark → ℕ → ℕ
line_start marks line = (slice_index_or marks line record { position = 0; units = 0 }).units

-- The byte position at which the line with a number starts.
abbrev pub line_position : List UnitMark → ℕ → ℕ
line_position marks line = (slice_index_or marks line record { position = 0; units = 0 }).position

-- The first of the starts is byte position 0.
abbrev pub StartsAtFront : List UnitMark → Type 0
StartsAtFront marks = (0 < length marks) × (line_position marks 0 ≡ 0)

-- The line starts at or before byte position `k`, and the next one, if there is one, after it.
pub record IsLineAt (marks : List UnitMark) (k line : ℕ) : Type 0 where
  pub within : line < length marks
  pub at_or_before : line_position marks line ≤ k
  pub next : line + 1 < length marks → k < line_position marks (line + 1)

-- The last boundary at or before byte position `k` has `n` units before it (Unicode 3.9, boundaries of code unit
-- sequences).
pub record IsColumnAt (w u : List ℕ) (k n : ℕ) : Type 0 where
  pub boundary : ℕ
  pub is_mark : IsMark w u boundary n
  pub at_or_before : boundary ≤ k
  pub last : (m : ℕ) → IsBoundary u m → m ≤ k → m ≤ boundary
