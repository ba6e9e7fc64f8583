-- Lists of building calls: what each call does to the units of a string, and what a list of them does.
use Rattle.std.specs.Prelude.{◌≡◌, ℕ, ◌+◌, ◌⊎◌, List, [], ◌∷◌, ◌++◌, take, slice_get, Option, Some, None, ⊤}
use Rattle.std.specs.List.{All}
use Rattle.std.specs.Str.{chars}
use Rattle.wtf8.specs.Unicode.{units_of, units}
use Rattle.wtf8.specs.CodePoint.{number, numbers}
use Rattle.wtf8.specs.View.{view_units}
use Rattle.wtf8.specs.Appending.{FitWithin}
use Rattle.wtf8.specs.Position.{IsBoundary, IsFront}
use Rattle.wtf8.specs.UnitPosition.{TruncatesUnits}
use Rattle.wtf8.specs.declared.buffers.build.Build.{Build}
use Rattle.wtf8.specs.declared.buffers.build.Build.TheVariants.{Push, PushChar, PushStr, PushWtf8, Extend, Reserve, Truncate, TruncateUnits}

-- Truncating `u` at a boundary `k` leaves the units `v` before it, and `r` is 0; else `v` is `u` and `r` is 1: refused.
abbrev pub Truncates : List ℕ → ℕ → List ℕ → ℕ → Type 0
Truncates u k v r = (IsFront u k v × (r ≡ 0)) ⊎ (¬ (IsBoundary u k) × (v ≡ u) × (r ≡ 1))

-- One call takes the units from `u` to `v`; `r` is 1 for a refused truncation, else 0.
abbrev pub Step : List ℕ → Build → List ℕ → ℕ → Type 0
Step u (Push p) v r = (v ≡ u ++ units_of (number p)) × (r ≡ 0)
Step u (PushChar x) v r = (v ≡ u ++ units_of x) × (r ≡ 0)
Step u (PushStr s) v r = (v ≡ u ++ units (chars s.now)) × (r ≡ 0)
Step u (PushWtf8 s) v r = (v ≡ u ++ view_units s) × (r ≡ 0)
Step u (Extend d) v r = (v ≡ u ++ units (numbers d.now)) × (r ≡ 0)
Step u (Reserve n) v r = (v ≡ u) × (r ≡ 0)
Step u (Truncate k) v r = Truncates u k v r
Step u (TruncateUnits n) v r = TruncatesUnits u n v r

-- The calls, in order, take the units from `u` to `v`, and `n` truncations among them are refused.
abbrev pub Run : List ℕ → List Build → List ℕ → ℕ → Type 0
Run u [] v n = (v ≡ u) × (n ≡ 0)
Run u (call ∷ calls) v n = (mid : List ℕ) × (r : ℕ) × (m : ℕ) × Step u call mid r × Run mid calls v m × (n ≡ r + m)

-- The units `v` that a call leaves if it is refused memory: `u`, and for an `Extend` after them the units of some
-- prefix of its code points. A truncation is never refused memory.
abbrev pub LeavesRefused : List ℕ → Build → List ℕ → Type 0
LeavesRefused u (Extend d) v = (n : ℕ) × (v ≡ u ++ units (numbers (take n d.now)))
LeavesRefused u (Truncate k) v = ⊥
LeavesRefused u (TruncateUnits n) v = ⊥
LeavesRefused u call v = v ≡ u

-- The call is not an `Extend`.
abbrev pub IsNoExtension : Build → Type 0
IsNoExtension (Extend d) = ⊥
IsNoExtension call = ⊤

-- The call is neither a `Truncate` nor a `TruncateUnits`.
abbrev pub IsNoTruncation : Build → Type 0
IsNoTruncation (Truncate k) = ⊥
IsNoTruncation (TruncateUnits n) = ⊥
IsNoTruncation call = ⊤

-- The calls before index `done` ran, and the call at that index was refused memory and left the units `v`.
pub record StopsAt (u : List ℕ) (calls : List Build) (done : ℕ) (v : List ℕ) : Type 0 where
  pub call : Build
  pub here : slice_get calls done ≡ Some call
  pub mid : List ℕ
  pub refused : ℕ
  pub before : Run u (take done calls) mid refused
  pub leaves : LeavesRefused mid call v

-- The units that a push or an extension appends, or `None` for any other call.
abbrev pub appended_units : Build → Option (List ℕ)
appended_units (Push p) = Some (units_of (number p))
appended_units (PushChar x) = Some (units_of x)
appended_units (PushStr s) = Some (units (chars s.now))
appended_units (PushWtf8 s) = Some (view_units s)
appended_units (Extend d) = Some (units (numbers d.now))
appended_units call = None

-- Each call of the list is a push or an extension, and together they append the units `v`.
abbrev pub CallsAppend : List Build → List ℕ → Type 0
CallsAppend [] v = v ≡ []
CallsAppend (call ∷ calls) v = (a : List ℕ) × (b : List ℕ) × (appended_units call ≡ Some a) × CallsAppend calls b × (v ≡ a ++ b)

-- The number of bytes that a call reserves beyond what it appends: that of a `Reserve`, else 0.
abbrev pub reserved_bytes : Build → ℕ
reserved_bytes (Reserve n) = n
reserved_bytes call = 0

-- The call is no truncation, takes `u` to `v`, and the form of `v` plus the bytes that it reserves fits `capacity`.
pub record CallFits (u : List ℕ) (call : Build) (v : List ℕ) (capacity : ℕ) : Type 0 where
  pub no_truncation : IsNoTruncation call
  pub step : Step u call v 0
  pub fits : FitWithin v (reserved_bytes call) capacity

-- Each call, when its turn comes, fits `capacity` as `CallFits` says, and together they take the units `u` to `v`.
abbrev pub EachCallFits : List ℕ → List Build → List ℕ → ℕ → Type 0
EachCallFits u [] v capacity = v ≡ u
EachCallFits u (call ∷ calls) v capacity = (mid : List ℕ) × CallFits u call mid capacity × EachCallFits mid calls v capacity

-- If no truncation comes after a `Reserve n`, the form of what the calls before it leave, plus `n`, fits `capacity`.
abbrev pub LeavesReserved : List ℕ → List Build → ℕ → Type 0
LeavesReserved u calls capacity =
    (front back : List Build) (n : ℕ) (v : List ℕ) (r : ℕ) → calls ≡ front ++ Reserve n ∷ back → All IsNoTruncation back
    → Run u front v r → FitWithin v n capacity

-- The calls take the units `u` to exactly one list of units, with exactly one count of refused truncations.
pub record RunsOnce (u : List ℕ) (calls : List Build) : Type 0 where
  pub outcome : List ℕ
  pub count : ℕ
  pub goes : Run u calls outcome count
  pub no_other : (v : List ℕ) (n : ℕ) → Run u calls v n → (v ≡ outcome) × (n ≡ count)

-- From each list of units, each list of calls has exactly one outcome and one count of refused truncations.
abbrev pub CallsRunOnce : Type 0
CallsRunOnce = (u : List ℕ) (calls : List Build) → RunsOnce u calls

-- Two runs, one after the other, are a run of both lists joined, and their counts of refused truncations add up.
abbrev pub RunsAddUp : Type 0
RunsAddUp = (u mid v : List ℕ) (front back : List Build) (m n : ℕ) → Run u front mid m → Run mid back v n → Run u (front ++ back) v (m + n)
