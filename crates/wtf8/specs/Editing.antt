-- What replacing units in the middle of a string leaves.
use Rattle.std.specs.Prelude.{ℕ, List, ◌++◌, take, drop}

-- The units of `u` before index `begin`, then `v`, then the units of `u` from index `end` on (WTF-8, "Concatenating").
abbrev pub spliced : List ℕ → ℕ → ℕ → List ℕ → List ℕ
spliced u begin end v = take begin u ++ (v ++ drop end u)
