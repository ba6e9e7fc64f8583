-- Parts of a string, cut at numbers of 16-bit units.
use Rattle.std.specs.Prelude.{◌≡◌, ℕ, ◌<◌, ◌≤◌, ◌⊎◌, List, ◌++◌, length, take, drop}
use Rattle.std.specs.Option.{option_to_list}
use Rattle.wtf8.specs.Concatenation.{MeetsAsPair}
use Rattle.wtf8.specs.View.{view_units}
use Rattle.wtf8.specs.declared.units.slices.UnitSlice.{UnitSlice}

-- The trail of a pair cut at a slice's start, if any, the units of whole code points, the lead of one cut at its end.
abbrev pub units_of_slice : UnitSlice → List ℕ
units_of_slice s = option_to_list s.trail ++ (view_units s.whole ++ option_to_list s.lead)

-- A cut after `n` units divides a pair: a lead is right before it, a trail right after it (Unicode 3.8, "Surrogates").
abbrev pub DividesPair : List ℕ → ℕ → Type 0
DividesPair u n = MeetsAsPair (take n u) (drop n u)

-- Truncating `u` to `n` units leaves the first `n`, `v`, and `r` is 0; if it has fewer, `v` is `u`, `r` is 1: refused.
abbrev pub TruncatesUnits : List ℕ → ℕ → List ℕ → ℕ → Type 0
TruncatesUnits u n v r = ((n ≤ length u) × (v ≡ take n u) × (r ≡ 0)) ⊎ ((length u < n) × (v ≡ u) × (r ≡ 1))
