-- UTF-16 as little-endian bytes.
use Rattle.std.specs.Prelude.{ℕ, ◌/◌, ◌%◌, List, [], ◌∷◌, ◌++◌, Option, option_to_list}
use Rattle.std.specs.List.{flat_map}

-- The bytes of the units: the low byte of each, then its high byte (Unicode 3.10, "UTF-16LE").
abbrev pub little_endian : List ℕ → List ℕ
little_endian units = flat_map (λ u. u % 0x100 ∷ u / 0x100 ∷ []) units

-- The bytes of the units, then the low byte of an incomplete unit, if any (Unicode 3.10, "UTF-16LE").
abbrev pub bytes_read : List ℕ → Option ℕ → List ℕ
bytes_read units low = little_endian units ++ option_to_list low
