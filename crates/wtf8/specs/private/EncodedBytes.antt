-- The code points that bytes begin with, their units, and calls that append units to a vector of bytes.
use Rattle.std.specs.Prelude.{◌≡◌, ℕ, zero, suc, ◌+◌, ◌-◌, ◌*◌, ◌/◌, ◌%◌, ◌<◌, ◌≤◌, length, List, [], ◌∷◌, ◌++◌, take, drop, get_or}
use Rattle.std.specs.Prelude.{slice_index, Result, OnOk, OnErr, IsOk, vec_capacity}
use Rattle.std.specs.declared.vec.Vec.{Vec}
use Rattle.wtf8.specs.Unicode.{IsCodePoint, units}
use Rattle.wtf8.specs.Form.{encoding, IsWellFormed, IsForm}

-- What `w` is if it begins with a code point `p` of `n` bytes, by its lead byte (WTF-8, "Generalized UTF-8").
pub record FirstPointByLead (w : List ℕ) (p n : ℕ) : Type 0 where
  pub nonempty : 0 < length w
  pub one : slice_index w 0 < 0x80 → (p ≡ slice_index w 0) × (n ≡ 1)
  pub two : 0x80 ≤ slice_index w 0 → slice_index w 0 < 0xE0
      → (0xC0 ≤ slice_index w 0) × (1 < length w) × (0x80 ≤ slice_index w 1) × (p < 0x800)
      × (p ≡ (slice_index w 0 - 0xC0) * 64 + (slice_index w 1 - 0x80)) × (n ≡ 2)
  pub three : 0xE0 ≤ slice_index w 0 → slice_index w 0 < 0xF0
      → (2 < length w) × (0x80 ≤ slice_index w 1) × (slice_index w 1 < 0xC0) × (0x80 ≤ slice_index w 2)
      × (slice_index w 2 < 0xC0) × (p < 0x10000)
      × (p ≡ ((slice_index w 0 - 0xE0) * 64 + (slice_index w 1 - 0x80)) * 64 + (slice_index w 2 - 0x80)) × (n ≡ 3)
  pub four : 0xF0 ≤ slice_index w 0
      → (3 < length w) × (0x80 ≤ slice_index w 1) × (0x80 ≤ slice_index w 2) × (0x80 ≤ slice_index w 3) × (0x10000 ≤ p)
      × (p ≡ (((slice_index w 0 - 0xF0) * 64 + (slice_index w 1 - 0x80)) * 64 + (slice_index w 2 - 0x80)) * 64 + (slice_index w 3 - 0x80))
      × (n ≡ 4)

-- The bytes are the encoding of a code point, followed by a rest (WTF-8, "Generalized UTF-8").
pub record BeginsWithPoint (w : List ℕ) : Type 0 where
  pub point : ℕ
  pub rest : List ℕ
  pub in_range : IsCodePoint point
  pub encoded : w ≡ encoding point ++ rest
  pub by_lead : FirstPointByLead w point (length (encoding point))

-- If the bytes begin with a code point, it is `p` and has `n` bytes.
abbrev pub FirstPointIs : List ℕ → ℕ → ℕ → Type 0
FirstPointIs w p n = (b : BeginsWithPoint w) → (p ≡ b.point) × (n ≡ length (encoding b.point))

-- If the old bytes are a form, the new ones are the form of its units followed by `v` (WTF-8, "Concatenating").
abbrev pub ExtendsForm : List ℕ → List ℕ → List ℕ → Type 0
ExtendsForm old new v = (u : List ℕ) → IsForm old u → IsForm new (u ++ v)

-- The unit in an encoding of two bytes: the low five and six bits (Unicode 3.9, "UTF-8", Table 3-6).
abbrev pub unit_of_two : List ℕ → ℕ
unit_of_two w = get_or w 0 0 % 32 * 64 + get_or w 1 0 % 64

-- The unit in an encoding of three bytes: the low four, six and six bits (Unicode 3.9, "UTF-8", Table 3-6).
abbrev pub unit_of_three : List ℕ → ℕ
unit_of_three w = (get_or w 0 0 % 16 * 64 + get_or w 1 0 % 64) * 64 + get_or w 2 0 % 64

-- The code point in an encoding of four bytes: the low three, six, six and six bits (Unicode 3.9, "UTF-8", Table 3-6).
abbrev pub point_of_four : List ℕ → ℕ
point_of_four w = ((get_or w 0 0 % 8 * 64 + get_or w 1 0 % 64) * 64 + get_or w 2 0 % 64) * 64 + get_or w 3 0 % 64

-- The lead of the code point in an encoding of four bytes: 0xD7C0 is 0xD800 less 0x10000 / 0x400 (Unicode 3.9, "UTF-16",
-- Table 3-5).
abbrev pub lead_of_four : List ℕ → ℕ
lead_of_four w = 0xD7C0 + point_of_four w / 0x400

-- The trail of the code point in an encoding of four bytes (Unicode 3.9, "UTF-16", Table 3-5).
abbrev pub trail_of_four : List ℕ → ℕ
trail_of_four w = 0xDC00 + point_of_four w % 0x400

-- The leads and trails of `k` code points of four bytes, one after the other.
abbrev pub pairs_of_fours : ℕ → List ℕ → List ℕ
pairs_of_fours zero w = []
pairs_of_fours (suc k) w = lead_of_four w ∷ trail_of_four w ∷ pairs_of_fours k (drop 4 w)

-- What `f` computes from each of `k` encodings of `n` bytes, one after the other.
abbrev pub map_run : ℕ → (List ℕ → ℕ) → ℕ → List ℕ → List ℕ
map_run n f zero w = []
map_run n f (suc k) w = f w ∷ map_run n f k (drop n w)

-- If `w` is well-formed, so is its rest from index `at` on, and its units are `v` followed by the units of the rest.
abbrev pub BeginsWithUnits : List ℕ → List ℕ → ℕ → Type 0
BeginsWithUnits w v at = (h : IsWellFormed w) → (rest : IsWellFormed (drop at w)) × (units h.points ≡ v ++ units rest.points)

-- `v` begins with the units of the first code points of `w`, if it is well-formed: `c` units for each of `n` bytes, up to
-- `most` bytes.
abbrev pub BeginsWithPoints : List ℕ → List ℕ → ℕ → ℕ → ℕ → Type 0
BeginsWithPoints w v most n c =
    (k : ℕ) → n * k ≤ most → (length (take (c * k) v) ≡ c * k) × BeginsWithUnits w (take (c * k) v) (n * k)

-- `left` less `rest` was written at `at..end`: `new` before `end`, then `rest`, is `old` before `at`, then `left`. What
-- is at index `end + 32` and later is as before.
pub record Writes (old : List ℕ) (at : ℕ) (left new : List ℕ) (end : ℕ) (rest : List ℕ) : Type 0 where
  pub units : take end new ++ rest ≡ take at old ++ left
  pub same_total : end + length rest ≡ at + length left
  pub order : at ≤ end
  pub len : length new ≡ length old
  pub later : (n : ℕ) → end + 32 ≤ n → drop n new ≡ drop n old

module _ {T E Z : Type 0} where
  -- A call leaves `whole`, or on an error the old items. It succeeds if `whole` fits the capacity, which never shrinks.
  pub record BecomesOrKeeps (old : Vec ℕ Z) (whole : List ℕ) (new : Vec ℕ Z) (r : Result T E) : Type 0 where
    pub ok : OnOk r (new.items ≡ whole)
    pub err : OnErr r (new.items ≡ old.items)
    pub room : length whole ≤ vec_capacity old → IsOk r
    pub capacity : vec_capacity old ≤ vec_capacity new

  -- A call appends the units `v` to the bytes or, on an error, leaves them unchanged, as `BecomesOrKeeps` says.
  pub record ExtendsFormOrKeeps (old : Vec ℕ Z) (v : List ℕ) (new : Vec ℕ Z) (r : Result T E) : Type 0 where
    pub whole : List ℕ
    pub extends : ExtendsForm old.items whole v
    pub becomes : BecomesOrKeeps old whole new r
