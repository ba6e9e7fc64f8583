-- The lines of an input and the words of a line.
use Rattle.std.specs.Prelude.{ℕ, List, [], ◌∷◌, ◌==◌}
use Rattle.std.specs.List.{slice_split}

-- The parts, without the last one if it is empty: a newline at the end of the input begins no line.
abbrev pub without_empty_end : List (List ℕ) → List (List ℕ)
without_empty_end [] = []
without_empty_end ([] ∷ []) = []
without_empty_end (part ∷ parts) = part ∷ without_empty_end parts

-- The lines of an input, each without its newline.
abbrev pub lines : List ℕ → List (List ℕ)
lines input = without_empty_end (slice_split (λ byte. byte == 10) input)

-- The words of a line: the parts before, between and after its spaces. The empty line has none.
abbrev pub words : List ℕ → List (List ℕ)
words [] = []
words (byte ∷ bytes) = slice_split (λ b. b == 32) (byte ∷ bytes)
