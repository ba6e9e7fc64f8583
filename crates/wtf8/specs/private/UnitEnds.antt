-- The units whose encodings end at the bytes of a block, each computed from its byte and the three before it.
use Rattle.std.specs.Prelude.{◌≡◌, ℕ, suc, ◌+◌, ◌-◌, ◌*◌, ◌/◌, ◌%◌, List, [], ◌∷◌, Bool, false, length, take, nat_lt}
use Rattle.std.specs.Prelude.{if◌then◌else◌}
use lib.Lanes.{mask_l, zip2}

-- What `f` computes from each byte of a list and the three bytes before it; before the list are `z`, `y` and `x`.
abbrev pub by_position : {A : Type 0} → (ℕ → ℕ → ℕ → ℕ → A) → ℕ → ℕ → ℕ → List ℕ → List A
by_position f z y x [] = []
by_position f z y x (b ∷ w) = f z y x b ∷ by_position f y x b w

-- For each byte of a block, the byte one position before it, or 0; below, two positions.
abbrev pub bytes_one_before : List ℕ → List ℕ
bytes_one_before w = by_position (λ z y x b. x) 0 0 0 w

abbrev pub bytes_two_before : List ℕ → List ℕ
bytes_two_before w = by_position (λ z y x b. y) 0 0 0 w

-- The byte `x` before `b`, or 0 if `b` is ASCII, which is an encoding of its own (Unicode 3.9, "UTF-8", Table 3-6).
abbrev pub lead_or_none : ℕ → ℕ → ℕ
lead_or_none x b = if nat_lt b 0x80 then 0 else x

-- The low byte of a unit of one to three bytes that ends with `x` and `b` (Unicode 3.9, "UTF-8", Table 3-6).
abbrev pub low_byte : ℕ → ℕ → ℕ
low_byte x b = (b % 128 + lead_or_none x b * 64 % 256) % 256

-- The high byte of a unit of one or two bytes that ends with `x` and `b` (Unicode 3.9, "UTF-8", Table 3-6).
abbrev pub high_of_two : ℕ → ℕ → ℕ
high_of_two x b = lead_or_none x b / 4 % 16

-- The high byte of a unit of one to three bytes that ends with `y`, `x` and `b` (Unicode 3.9, "UTF-8", Table 3-6).
abbrev pub high_byte : ℕ → ℕ → ℕ → ℕ
high_byte y x b = (high_of_two x b + (y - 0xE0) * 16 % 256) % 256

-- The low byte of the unit that ends with `y`, `x` and `b`, a lead if `y` leads four bytes (Unicode 3.9, Table 3-6).
abbrev pub low_of_any : ℕ → ℕ → ℕ → ℕ
low_of_any y x b = if nat_lt y 0xF0 then low_byte x b else (low_byte x b / 16 + (high_byte y x b - 4) * 16 % 256) % 256

-- The high byte of the unit that ends with `z`, `y`, `x` and `b`, a lead or a trail if `y` or `z` leads four bytes
-- (Unicode 3.9, "UTF-16", Table 3-5, and "UTF-8", Table 3-6).
abbrev pub high_of_any : ℕ → ℕ → ℕ → ℕ → ℕ
high_of_any z y x b =
    if nat_lt y 0xF0 then (if nat_lt z 0xF0 then high_byte y x b else (0xDC + high_byte y x b % 4) % 256)
    else (0xD8 + (high_byte y x b - 4) / 16) % 256

-- Whether a unit ends with `b` after `x`: `b` is no lead byte, and `x` none of three or four bytes. So the third of
-- four bytes ends a lead, the fourth a trail (Unicode 3.9, "UTF-8", Table 3-6).
abbrev pub ends_unit : ℕ → ℕ → Bool
ends_unit x b = if nat_lt b 0xC0 then nat_lt x 0xE0 else false

-- Whether a unit ends with `b` after `y` and `x` in a block that goes on with `w`. A lead at the block's end does not.
abbrev pub ends_in_block : ℕ → ℕ → ℕ → List ℕ → Bool
ends_in_block y x b [] = if nat_lt y 0xF0 then ends_unit x b else false
ends_in_block y x b (c ∷ w) = ends_unit x b

-- For each byte of a block after `y` and `x`, whether a unit ends with it, but for a lead at the block's end.
abbrev pub set_lanes : ℕ → ℕ → List ℕ → List Bool
set_lanes y x [] = []
set_lanes y x (b ∷ w) = ends_in_block y x b w ∷ set_lanes x b w

-- The numbers whose lanes are set.
abbrev pub picked : List ℕ → List Bool → List ℕ
picked [] s = []
picked (n ∷ u) [] = []
picked (n ∷ u) (b ∷ s) = if b then n ∷ picked u s else picked u s

-- The words that consecutive bytes make by twos, the low byte first.
abbrev pub words : List ℕ → List ℕ
words [] = []
words (l ∷ []) = []
words (l ∷ h ∷ w) = (l + 256 * h) ∷ words w

-- The words of low bytes and high bytes.
abbrev pub joined_words : List ℕ → List ℕ → List ℕ
joined_words low high = zip2 (λ l h. l + 256 * h) low high

-- The indexes of both bytes of each word, from word `k` on, whose lane is set.
abbrev pub word_lanes : ℕ → List Bool → List ℕ
word_lanes k [] = []
word_lanes k (b ∷ s) = if b then (2 * k) ∷ (2 * k + 1) ∷ word_lanes (suc k) s else word_lanes (suc k) s

-- The row at table index `number` begins with the indexes of the bytes of the words whose bit is set in `number`.
abbrev pub IsPackingRow : ℕ → List ℕ → Type 0
IsPackingRow number row = (s : List Bool) → length s ≡ 8 → number ≡ mask_l s → take (length (word_lanes 0 s)) row ≡ word_lanes 0 s
