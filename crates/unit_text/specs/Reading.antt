-- The code points that a list of units encodes.
use Rattle.std.specs.Prelude.{ℕ, List, [], ◌∷◌}
use Rattle.wtf8.specs.Concatenation.{glue}

-- The code points of units: each unit glued to the reading of the rest, which joins pairs (WTF-8, "Concatenating").
abbrev pub reading : List ℕ → List ℕ
reading [] = []
reading (n ∷ u) = glue (n ∷ []) (reading u)
