-- Lists of strings in code point order.
use Rattle.std.specs.Prelude.{List}
use Rattle.std.specs.List.Sorted.{IsSorted, IsStrictlySortedBy}
use Rattle.std.specs.Cmp.Lexicographic.{slice_cmp}
use Rattle.std.specs.Ordering.{nat_cmp}
use Rattle.wtf8.specs.UnitString.{UnitString}
use Rattle.wtf8.specs.View.{view_points}
use Rattle.wtf8.specs.Types.{Wtf8}

-- No string is less than the one before it, by code points (Unicode 5.17, "Binary Order").
abbrev pub AreInPointOrder : List UnitString → Type 0
AreInPointOrder strings = IsSorted (λ s t. slice_cmp nat_cmp s.form.points t.form.points) strings

-- Each string is less than all that follow it, by code points (Unicode 5.17, "Binary Order").
abbrev pub AreInStrictPointOrder : List UnitString → Type 0
AreInStrictPointOrder strings = IsStrictlySortedBy (λ s t. slice_cmp nat_cmp s.form.points t.form.points) strings

-- No view is less than the one before it, by code points (Unicode 5.17, "Binary Order").
abbrev pub AreViewsInPointOrder : List Wtf8 → Type 0
AreViewsInPointOrder views = IsSorted (λ s t. slice_cmp nat_cmp (view_points s) (view_points t)) views
