-- What an editor of a text holds.
use Rattle.std.specs.Prelude.{◌≡◌, ℕ, ◌+◌, List, length, Option, Some}
use Rattle.wtf8.specs.Editing.{spliced}
use Rattle.wtf8.specs.UnitMark.{RoundsDownTo}
use Rattle.wtf8.specs.UnitPosition.{DividesPair}

-- A text as its units, and the number of units before the cursor.
pub record Edited : Type 0 where
  pub units : List ℕ
  pub cursor : ℕ

-- What is shown, and what `undo` shows instead, if there is a change to undo.
pub record History : Type 0 where
  pub shown : Edited
  pub other : Option Edited

-- `m` is `n` or, if a cut after `n` units divides a pair, `n - 1` (Unicode 3.9, boundaries of code unit sequences).
pub record IsCursor (u : List ℕ) (n m : ℕ) : Type 0 where
  pub rounds : RoundsDownTo u n m
  pub no_pair : ¬ (DividesPair u m)

-- In `new` the units of `old` from index `begin` to before `end` are replaced by `v`, the cursor is after these or, if
-- that divides a pair, before the pair, and `undo` shows what `old` does.
pub record IsChanged (old : History) (begin end : ℕ) (v : List ℕ) (new : History) : Type 0 where
  pub units : new.shown.units ≡ spliced old.shown.units begin end v
  pub cursor : IsCursor new.shown.units (begin + length v) new.shown.cursor
  pub other : new.other ≡ Some old.shown
