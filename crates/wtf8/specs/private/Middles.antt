-- What replaces the middle of a string.
use Rattle.std.specs.Prelude.{ℕ, List}
use Rattle.wtf8.specs.View.{view_units}
use Rattle.wtf8.specs.declared.strings.middle.Middle.{Middle}
use Rattle.wtf8.specs.declared.strings.middle.Middle.TheVariants.{Units, View}

-- The units that a middle puts into a string, in either form.
abbrev pub middle_units : Middle → List ℕ
middle_units (Units v) = v.now
middle_units (View t) = view_units t
