-- The bounds that `size_hint` of the iterators returns.
use Rattle.std.specs.Prelude.{ℕ, ◌+◌, ◌*◌, ◌/◌, ◌≤◌, ◌^◌, List, Option, Some, None, IfSome, length, nat_lt, if◌then◌else◌}
use Rattle.wtf8.specs.Form.{bytes}
use Rattle.wtf8.specs.Units.{Unread}

-- The number of items is at least the lower bound of the hint and at most its upper bound, if it has one.
pub record IsTrueHint (hint : ℕ × Option ℕ) (items : ℕ) : Type 0 where
  pub lower : hint.0 ≤ items
  pub upper : IfSome hint.1 (λ most. items ≤ most)

-- The hint for code points of one to four bytes: from a quarter of their bytes, rounded up, to one for each byte.
abbrev pub points_hint : List ℕ → ℕ × Option ℕ
points_hint c = ((length (bytes c) + 3) / 4, Some (length (bytes c)))

-- An upper bound, or `None` if it is greater than `usize::MAX`.
abbrev pub if_it_fits : ℕ → Option ℕ
if_it_fits n = if nat_lt n (2 ^ 64) then Some n else None

-- The hint for units: the held one, if any, plus from a quarter of the number of unread bytes, rounded up, to twice
-- that number. There is no upper bound if it is greater than `usize::MAX`.
abbrev pub units_hint : Unread → ℕ × Option ℕ
units_hint s = ((length (bytes s.points) + 3) / 4 + length s.held, if_it_fits (2 * length (bytes s.points) + length s.held))
