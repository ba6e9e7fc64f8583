-- The number of bytes that each unit of a list adds to the form of the list.
use Rattle.std.specs.Prelude.{◌≡◌, ℕ, ◌+◌, ◌≤◌, List, [], ◌∷◌, get_or, length, nat_lt, if◌then◌else◌, take}
use lib.Lanes.{sum_l}
use Rattle.wtf8.specs.declared.from_utf16.encoded_len.Counted.{Counted}

-- The bytes beyond one that the unit `n` adds before the unit `after`: of a pair's four bytes the lead adds one, then the
-- trail three (Unicode 3.9, "UTF-8", Table 3-6).
abbrev pub more_bytes : ℕ → ℕ → ℕ
more_bytes n after =
    if nat_lt n 0x80 then 0
    else if nat_lt n 0x800 then 1
    else if nat_lt n 0xD800 then 2
    else if nat_lt n 0xDC00 then (if nat_lt after 0xDC00 then 2 else if nat_lt after 0xE000 then 0 else 2)
    else 2

-- The bytes beyond one that each of the units adds.
abbrev pub each_more : List ℕ → List ℕ
each_more [] = []
each_more (n ∷ u) = more_bytes n (get_or u 0 0) ∷ each_more u

-- `counted` is an index, and the number of bytes that the units before it add.
pub record IsCounted (u : List ℕ) (counted : Counted) : Type 0 where
  pub within : counted.at ≤ length u
  pub bytes : counted.len ≡ counted.at + sum_l (take counted.at (each_more u))
