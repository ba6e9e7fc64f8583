-- Marks: byte positions in a string with the number of units before them.
use Rattle.std.specs.Prelude.{◌≡◌, ℕ, ◌+◌, ◌<◌, ◌≤◌, ◌⊎◌, ◌↔◌, List, ◌++◌, length, take, drop}
use Rattle.wtf8.specs.Form.{IsForm}
use Rattle.wtf8.specs.Position.{IsFront}
use Rattle.wtf8.specs.UnitPosition.{DividesPair}
use Rattle.wtf8.specs.View.{view_units}
use Rattle.wtf8.specs.declared.strings.view.Wtf8.{Wtf8}
use Rattle.wtf8.specs.declared.units.marks.UnitMark.{UnitMark}

-- Byte position `k` is a mark of `n` units: the bytes before it are the form of the first `n` units, and the bytes
-- after it the form of the rest (WTF-8, "Converting between WTF-8 and potentially ill-formed UTF-16").
pub record IsMark (w u : List ℕ) (k n : ℕ) : Type 0 where
  pub position_within : k ≤ length w
  pub units_within : n ≤ length u
  pub before : IsForm (take k w) (take n u)
  pub after : IsForm (drop k w) (drop n u)

-- The position and the number of units of a `UnitMark` are a mark of the view's bytes and units.
abbrev pub IsMarkOf : Wtf8 → UnitMark → Type 0
IsMarkOf view mark = IsMark view.bytes.now (view_units view) mark.position mark.units

-- `m` is `n` or, if a cut after `n` units divides a pair, `n - 1` (Unicode 3.8, "Surrogates").
abbrev pub RoundsDownTo : List ℕ → ℕ → ℕ → Type 0
RoundsDownTo u n m = (m ≡ n) ⊎ ((m + 1 ≡ n) × DividesPair u n)

-- In a string with equal numbers of bytes and units, each byte position `k` is a mark of `k` units.
abbrev pub EqualCountsAreMarks : Type 0
EqualCountsAreMarks = (w u : List ℕ) (k : ℕ) → IsForm w u → length w ≡ length u → k ≤ length w → IsMark w u k k

-- A mark before the last unit is still a mark after units are appended, also if a lead and a trail meet.
abbrev pub MarksStay : Type 0
MarksStay = (w x u v : List ℕ) (k n : ℕ) → IsForm w u → IsForm x (u ++ v) → n < length u → IsMark w u k n → IsMark x (u ++ v) k n

-- A mark within the first `n` units of a string is a mark of the string of these units.
abbrev pub MarksStayInFront : Type 0
MarksStayInFront =
    (w x u : List ℕ) (k m n : ℕ) → IsForm x u → IsForm w (take n u) → m ≤ n → n ≤ length u → IsMark x u k m → IsMark w (take n u) k m

-- A cut at a mark divides no pair.
abbrev pub MarksDivideNoPair : Type 0
MarksDivideNoPair = (w u : List ℕ) (k n : ℕ) → IsForm w u → IsMark w u k n → ¬ (DividesPair u n)

-- Two marks of a string have equal positions if and only if they have equal numbers of units.
abbrev pub EqualMarksHaveEqualUnits : Type 0
EqualMarksHaveEqualUnits = (w u : List ℕ) (k l m n : ℕ) → IsForm w u → IsMark w u k m → IsMark w u l n → (k ≡ l) ↔ (m ≡ n)

-- One mark of a string is at or before another by position if and only if it is by its number of units.
abbrev pub MarksAreInOneOrder : Type 0
MarksAreInOneOrder = (w u : List ℕ) (k l m n : ℕ) → IsForm w u → IsMark w u k m → IsMark w u l n → (k ≤ l) ↔ (m ≤ n)

-- The mark that is found for the number of units of a mark is at its position.
abbrev pub MarksAreFoundAgain : Type 0
MarksAreFoundAgain = (w u : List ℕ) (k l m n : ℕ) → IsForm w u → IsMark w u k m → IsMark w u l n → RoundsDownTo u m n → l ≡ k

-- A boundary is a mark of the number of units before it.
abbrev pub BoundariesAreMarks : Type 0
BoundariesAreMarks = (w u v : List ℕ) (k : ℕ) → IsForm w u → IsFront u k v → IsMark w u k (length v)
