-- The units in bytes: their number, the code point that holds a unit, and steps of an iterator that holds back a trail.
use Rattle.std.specs.Prelude.{◌≡◌, ℕ, Bool, false, ◌+◌, ◌*◌, ◌%◌, ◌<◌, ◌≤◌, List, [], ◌∷◌, take, drop, length, nat_lt, if◌then◌else◌}
use Rattle.std.specs.List.{sum_by}
use Rattle.wtf8.specs.Form.{IsWellFormed}
use Rattle.wtf8.specs.Unicode.{units_of}
use Rattle.wtf8.specs.Units.{Unread, unread_units}
use Rattle.wtf8.specs.declared.units.counts.UnitCursor.{UnitCursor}

-- The number of units of a code point by its lead byte; 0 for a continuation byte (Unicode 3.9, "UTF-8", Table 3-6).
unfoldable pub utf16_len : ℕ → ℕ
utf16_len b = if nat_lt b 0x80 then 1 else if nat_lt b 0xC0 then 0 else if nat_lt b 0xF0 then 1 else 2

-- The number of units of the code points that begin among the bytes.
abbrev pub sum_utf16_len : List ℕ → ℕ
sum_utf16_len w = sum_by utf16_len w

-- `cursor` is a byte position with the number of units of the code points that begin before it, which is at most `n`.
pub record IsCursor (w : List ℕ) (n : ℕ) (cursor : UnitCursor) : Type 0 where
  pub within : cursor.position ≤ length w
  pub counted : cursor.units ≡ sum_utf16_len (take cursor.position w)
  pub not_beyond : cursor.units ≤ n

-- `cursor` is the start of the code point that holds unit `n`, or the end of the bytes if they have at most `n` units.
pub record IsCursorOfUnit (w : List ℕ) (n : ℕ) (cursor : UnitCursor) : Type 0 where
  pub before : IsCursor w n cursor
  pub reaches : cursor.position < length w → n < sum_utf16_len (take (cursor.position + 1) w)

-- Whether a byte is a continuation byte: from 0x80 to 0xBF.
abbrev pub is_continuation : ℕ → Bool
is_continuation b = if nat_lt b 0x80 then false else nat_lt b 0xC0

-- The trail of a supplementary code point from the last two bytes of its encoding: four low bits and six.
abbrev pub trail_from_bytes : ℕ → ℕ → ℕ
trail_from_bytes a b = 0xDC00 + a % 16 * 64 + b % 64

-- The trail of a supplementary code point whose last two bytes begin the bytes; nothing if a code point begins there.
abbrev pub held_trail : List ℕ → List ℕ
held_trail (a ∷ b ∷ w) = if is_continuation a then trail_from_bytes a b ∷ [] else []
held_trail w = []

-- The bytes after the trail that `held_trail` reads: all of them if a code point begins there.
abbrev pub after_held_trail : List ℕ → List ℕ
after_held_trail (a ∷ b ∷ w) = if is_continuation a then w else a ∷ b ∷ w
after_held_trail w = w

-- What is left after the first unit, the held trail or else a code point's first, whose trail, if any, is then held.
abbrev pub unread_after : List ℕ → List ℕ → Unread
unread_after (t ∷ held) c = record { held = held; points = c }
unread_after [] [] = record { held = []; points = [] }
unread_after [] (p ∷ c) = record { held = drop 1 (units_of p); points = c }

-- What is unread at byte position `position`: the trail that begins there, if any, and the code points after it.
abbrev pub unread_at : (v : List ℕ) (position : ℕ) → IsWellFormed (after_held_trail (drop position v)) → Unread
unread_at v position h = record { held = held_trail (drop position v); points = h.points }

-- A step from position `position` to `next` reads the first unread unit and leaves the rest.
pub record StepsUnit (v : List ℕ) (position : ℕ) (h : IsWellFormed (after_held_trail (drop position v))) (unit next : ℕ) : Type 0 where
  pub within : next ≤ length v
  pub after : IsWellFormed (after_held_trail (drop next v))
  pub first : unread_units (unread_at v position h) ≡ unit ∷ unread_units (unread_at v next after)
  pub left : unread_at v next after ≡ unread_after (held_trail (drop position v)) h.points
