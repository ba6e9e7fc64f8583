-- What an editor keeps to undo its last change.
use Rattle.std.specs.Prelude.{◌≡◌, ℕ, ◌+◌, ◌≤◌, List, length, take, drop, Option, IfSome}
use Rattle.wtf8.specs.Appending.{FitWithin}
use Rattle.wtf8.specs.Editing.{spliced}
use Rattle.wtf8.specs.UnitPosition.{DividesPair}
use Rattle.wtf8.specs.UnitString.{UnitString}
use Rattle.wtf8_uses.specs.Editor.{Edited}
use Rattle.wtf8_uses.specs.declared.editor.Change.{Change}

-- The units `u` with the removed units of the change in place of the inserted ones, and the cursor before it.
abbrev pub undone : {A : Type 0} → List ℕ → Change A → Edited
undone u c = record { units = spliced u c.begin (c.begin + length c.inserted.items) c.removed.items; cursor = c.cursor }

-- The cursor is within the text and divides no pair.
pub record IsShown (s : Edited) : Type 0 where
  pub within : s.cursor ≤ length s.units
  pub no_pair : ¬ (DividesPair s.units s.cursor)

-- The units that the change put in are there, and what was there before can be shown again without memory.
pub record CanUndo {A : Type 0} (text : UnitString) (c : Change A) : Type 0 where
  pub within : c.begin + length c.inserted.items ≤ length text.units
  pub inserted : take (length c.inserted.items) (drop c.begin text.units) ≡ c.inserted.items
  pub shown : IsShown (undone text.units c)
  pub fits : FitWithin (undone text.units c).units 0 text.capacity

-- The cursor is in the text, and the change, if any, can be undone.
pub record IsEditor {A : Type 0} (text : UnitString) (cursor : ℕ) (change : Option (Change A)) : Type 0 where
  pub shown : IsShown record { units = text.units; cursor = cursor }
  pub undo : IfSome change (CanUndo text)
