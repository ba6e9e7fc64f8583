-- The bytes that a reader has left, if they are known.
use Rattle.std.specs.Prelude.{◌≡◌, ℕ, List, Option, IfSome}

-- The bytes that a reader has left are `input`, if they are known.
abbrev pub IsInput : Option (List ℕ) → List ℕ → Type 0
IsInput known input = IfSome known (λ bytes. bytes ≡ input)
