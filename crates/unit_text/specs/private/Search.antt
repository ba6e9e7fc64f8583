-- The units that a search looks for, as it holds them.
use Rattle.std.specs.Prelude.{◌≢◌, ◌+◌, ◌<◌, ◌⊎◌, ℕ, List, ◌++◌, length, slice_index}
use Rattle.wtf8.specs.View.{view_units}
use Rattle.unit_text.specs.declared.search.Pattern.{Pattern}

-- The units of a pattern: the slice's, and after them the string's.
abbrev pub pattern_units : Pattern → List ℕ
pattern_units p = p.units.now ++ view_units p.after

-- Units `s` do not begin at index `k` of `part`: its unit there is not their first, or the next one not their second.
abbrev pub BeginsApart : List ℕ → List ℕ → ℕ → Type 0
BeginsApart part s k =
    (slice_index part k ≢ slice_index s 0) ⊎ ((1 < length s) × (k + 1 < length part) × (slice_index part (k + 1) ≢ slice_index s 1))
