use Rattle.std.proofs.Common.{◌≡◌, ◌++◌, length, map}
use Rattle.std.specs.List.{slice_split}
use Rattle.wtf8.specs.View.{view_units}
use Rattle.wtf8_uses.specs.FileName.{is_separator}
use Rattle.wtf8_uses.proofs.file_names.components.Given as goal

-- the parts so far and the components of the rest are the components of the path
abbrev pub invariant-loop-part : goal.invariant-loop-part
invariant-loop-part l =
    map view_units l.parts.items ++ slice_split is_separator (view_units l.rest) ≡ slice_split is_separator (view_units l.fn.path)

-- the rest gets shorter
abbrev pub decreases-loop-part : goal.decreases-loop-part
decreases-loop-part l = length (view_units l.rest)
