-- Environment blocks of Windows.
use Rattle.std.specs.Prelude.{ℕ, List, [], ◌∷◌, ◌++◌}
use Rattle.std.specs.List.{flat_map}
use Rattle.wtf8.specs.View.{view_units}
use Rattle.wtf8_uses.specs.declared.environment.Variable.{Variable}

-- The units of a variable: its name, `=`, its value and a zero (Windows, "CreateProcessW", lpEnvironment).
abbrev pub variable_units : Variable → List ℕ
variable_units variable = view_units variable.name ++ 0x3D ∷ (view_units variable.value ++ 0 ∷ [])

-- An environment block: the units of each variable, then one more zero (Windows, "CreateProcessW", lpEnvironment).
abbrev pub block : List Variable → List ℕ
block variables = flat_map variable_units variables ++ 0 ∷ []
