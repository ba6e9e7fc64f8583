-- Where a list of units occurs in another.
use Rattle.std.specs.Prelude.{◌≡◌, ℕ, ◌+◌, ◌<◌, ◌≤◌, List, length, take, drop, Option, MatchOption}

-- The list `s` occurs in `u` at index `k` (ECMAScript, "StringIndexOf").
pub record OccursAt (u s : List ℕ) (k : ℕ) : Type 0 where
  pub within : k + length s ≤ length u
  pub there : take (length s) (drop k u) ≡ s

-- `k` is the first index at or after `position` at which `s` occurs in `u` (ECMAScript, "StringIndexOf").
pub record IsFirstIndex (u s : List ℕ) (position k : ℕ) : Type 0 where
  pub after : position ≤ k
  pub occurs : OccursAt u s k
  pub no_earlier : (j : ℕ) → position ≤ j → j < k → ¬ (OccursAt u s j)

-- `k` is the last index at or before `position` at which `s` occurs in `u` (ECMAScript, "StringLastIndexOf").
pub record IsLastIndex (u s : List ℕ) (position k : ℕ) : Type 0 where
  pub before : k ≤ position
  pub occurs : OccursAt u s k
  pub no_later : (j : ℕ) → k < j → j ≤ position → ¬ (OccursAt u s j)

-- The result is the first index at or after `position` at which `s` occurs in `u`, or `None` if there is none.
abbrev pub FindsFirst : List ℕ → List ℕ → ℕ → Option ℕ → Type 0
FindsFirst u s position r = MatchOption r ((k : ℕ) → position ≤ k → ¬ (OccursAt u s k)) (IsFirstIndex u s position)

-- The result is the last index below `end` at which `s` occurs in `u`, or `None` if there is none.
abbrev pub FindsLastBelow : List ℕ → List ℕ → ℕ → Option ℕ → Type 0
FindsLastBelow u s end r =
    MatchOption r ((k : ℕ) → k < end → ¬ (OccursAt u s k)) (λ k. OccursAt u s k × (k < end) × ((j : ℕ) → k < j → j < end → ¬ (OccursAt u s j)))
