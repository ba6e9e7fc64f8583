-- Definitions of ECMAScript's string calls, over lists of units.
use Rattle.std.specs.Prelude.{◌≡◌, ℕ, ◌+◌, ◌-◌, ◌<◌, ◌≤◌, ◌⊎◌, List, ◌++◌, length, take, drop, max, slice_get, slice_index, Option, Some, None}
use Rattle.std.specs.Prelude.{if◌then◌else◌}
use Rattle.std.specs.Option.{option_map}
use Rattle.wtf8.specs.Concatenation.{is_pair}
use Rattle.wtf8.specs.Form.{Reads}
use Rattle.wtf8.specs.Surrogates.{lossy_points}
use Rattle.wtf8.specs.Unicode.{pair, units}
use Rattle.unit_text.specs.Search.{OccursAt, IsFirstIndex}

-- The code point of a unit and the next one, if any: that of their pair, or else the first (ECMAScript, "CodePointAt").
abbrev pub point_with : ℕ → Option ℕ → ℕ
point_with l None = l
point_with l (Some t) = if is_pair l t then pair l t else l

-- The code point at unit index `k`, or `None` if there is no unit (ECMAScript, "CodePointAt").
abbrev pub point_at : List ℕ → ℕ → Option ℕ
point_at u k = option_map (λ l. point_with l (slice_get u (k + 1))) (slice_get u k)

-- `v` is `u` from index `begin` on, with `other` for each occurrence of `s` that is found from index `from` on, one after
-- the other (ECMAScript, "String.prototype.replaceAll").
pub data IsReplaced (u s other : List ℕ) : ℕ → ℕ → List ℕ → Type 0 where
  none : (begin from : ℕ) → ((k : ℕ) → from ≤ k → ¬ (OccursAt u s k)) → IsReplaced u s other begin from (drop begin u)
  next : (begin from k : ℕ) (v : List ℕ) → IsFirstIndex u s from k → IsReplaced u s other (k + length s) (k + max 1 (length s)) v
      → IsReplaced u s other begin from (drop begin (take k u) ++ (other ++ v))

-- `v` is `u` with U+FFFD for each lone surrogate (ECMAScript, "String.prototype.toWellFormed").
pub record IsMadeWellFormed (u v : List ℕ) : Type 0 where
  pub points : List ℕ
  pub reads : Reads points u
  pub replaced : units (lossy_points points) ≡ v

-- The unit is an ASCII white space or line terminator (ECMAScript, "WhiteSpace" and "LineTerminator").
abbrev pub IsSpace : ℕ → Type 0
IsSpace unit = (unit ≡ 0x20) ⊎ ((0x09 ≤ unit) × (unit ≤ 0x0D))

-- `v` is `u` without the spaces (`IsSpace`) at its two ends (ECMAScript, "TrimString").
pub record IsTrimmed (u v : List ℕ) : Type 0 where
  pub begin : ℕ
  pub end : ℕ
  pub within : end ≤ length u
  pub between : v ≡ drop begin (take end u)
  pub before : (k : ℕ) → k < begin → IsSpace (slice_index u k)
  pub after : (k : ℕ) → end ≤ k → k < length u → IsSpace (slice_index u k)
  pub first : begin < end → ¬ (IsSpace (slice_index u begin))
  pub last : begin < end → ¬ (IsSpace (slice_index u (end - 1)))
