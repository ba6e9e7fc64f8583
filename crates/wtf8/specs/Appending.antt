-- What appending does to a string, and the capacity that it needs.
use Rattle.std.specs.Prelude.{◌≡◌, ℕ, ◌+◌, ◌<◌, ◌≤◌, List, ◌++◌, length}
use Rattle.wtf8.specs.UnitString.{UnitString}
use Rattle.wtf8.specs.Unicode.{units}
use Rattle.wtf8.specs.Form.{IsForm}
use Rattle.wtf8.specs.CodePoint.{numbers}
use Rattle.wtf8.specs.Concatenation.{MeetsAsPair}
use Rattle.wtf8.specs.View.{view_units}
use Rattle.wtf8.specs.declared.strings.view.Wtf8.{Wtf8}
use Rattle.wtf8.specs.declared.codec.code_point.CodePoint.{CodePoint}

-- The new units are the old ones followed by `v` (WTF-8, "Concatenating").
abbrev pub AppendsUnits : UnitString → List ℕ → UnitString → Type 0
AppendsUnits old v new = new.units ≡ old.units ++ v

-- The new units are the old ones followed by the units of the code points, in order (WTF-8, "Concatenating").
abbrev pub AppendsPoints : UnitString → List CodePoint → UnitString → Type 0
AppendsPoints old points new = AppendsUnits old (units (numbers points)) new

-- The new string has the units and the bytes of the old one.
pub record KeepsContents (old new : UnitString) : Type 0 where
  pub units : new.units ≡ old.units
  pub bytes : new.bytes ≡ old.bytes

-- The units `u` have a form, and its length in bytes plus `more` is at most `capacity`.
pub record FitWithin (u : List ℕ) (more capacity : ℕ) : Type 0 where
  pub whole : List ℕ
  pub form : IsForm whole u
  pub within : length whole + more ≤ capacity

-- The string's units followed by `v` have a form, which is no longer than the string's capacity.
abbrev pub HasRoomFor : UnitString → List ℕ → Type 0
HasRoomFor s v = FitWithin (s.units ++ v) 0 s.capacity

-- Every form of the string's units followed by `v` is longer than the string's capacity.
abbrev pub Outgrows : UnitString → List ℕ → Type 0
Outgrows s v = (w : List ℕ) → IsForm w (s.units ++ v) → s.capacity < length w

-- The new length in bytes is the old one plus that of `other`, less 2 if their units meet as a pair.
pub record AddsLength (old : UnitString) (other : Wtf8) (new : UnitString) : Type 0 where
  pub pair : MeetsAsPair old.units (view_units other) → length new.bytes + 2 ≡ length old.bytes + length other.bytes.now
  pub apart : ¬ (MeetsAsPair old.units (view_units other)) → length new.bytes ≡ length old.bytes + length other.bytes.now
