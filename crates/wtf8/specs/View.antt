-- What contracts see of a `Wtf8`.
use Rattle.std.specs.Prelude.{ℕ, List}
use Rattle.wtf8.specs.Unicode.{units}
use Rattle.wtf8.specs.Form.{IsForm}
use Rattle.wtf8.specs.OneForm.{form_of}
use Rattle.wtf8.specs.declared.strings.view.Wtf8.{Wtf8}

-- The code points that a view's bytes encode.
abbrev pub view_points : Wtf8 → List ℕ
view_points view = view.well_formed.points

-- The units of a view: the units of its code points (WTF-8, "Potentially ill-formed UTF-16").
abbrev pub view_units : Wtf8 → List ℕ
view_units view = units view.well_formed.points

-- A view's bytes are the form of its units.
abbrev pub view_form : (view : Wtf8) → IsForm view.bytes.now (view_units view)
view_form view = form_of view.well_formed
