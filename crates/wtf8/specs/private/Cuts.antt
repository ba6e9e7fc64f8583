-- Cuts of code points at a number of units, next to which a surrogate may become half of another pair.
use Rattle.std.specs.Prelude.{◌≡◌, ℕ, ◌+◌, ◌≤◌, List, ◌++◌, length, take, drop}
use Rattle.wtf8.specs.Concatenation.{MeetsAsPair}
use Rattle.wtf8.specs.Form.{IsForm, bytes}
use Rattle.wtf8.specs.Unicode.{units}

-- The first `n` units of `c` are the units of its code points before byte position `k`, then `head`, and no pair forms
-- there, whatever follows `head`.
pub record CutsBefore (c : List ℕ) (n k : ℕ) (head : List ℕ) : Type 0 where
  pub front : List ℕ
  pub back : List ℕ
  pub joined : c ≡ front ++ back
  pub front_len : length (bytes front) ≡ k
  pub kept : units front ++ head ≡ take n (units c)
  pub apart : (x : List ℕ) → ¬ (MeetsAsPair (units front) (head ++ x))

-- The units of `c` after the first `n` are `tail`, then the units of its code points from byte position `k` on, and no
-- pair forms there, whatever precedes `tail`.
pub record CutsAfter (c : List ℕ) (n k : ℕ) (tail : List ℕ) : Type 0 where
  pub front : List ℕ
  pub back : List ℕ
  pub joined : c ≡ front ++ back
  pub front_len : length (bytes front) ≡ k
  pub kept : tail ++ units back ≡ drop n (units c)
  pub apart : (x : List ℕ) → ¬ (MeetsAsPair (x ++ tail) (units back))

-- The form of the units of `v` before index `read` was written over `old` at `at..to`, and with the form of the units
-- that are left it is the form of all of `v`.
pub record WritesForm (old : List ℕ) (at : ℕ) (v : List ℕ) (read : ℕ) (new : List ℕ) (to : ℕ) : Type 0 where
  pub within : read ≤ length v
  pub front : List ℕ
  pub end : to ≡ at + length front
  pub items : new ≡ take at old ++ (front ++ drop to old)
  pub rest : (w : List ℕ) → IsForm w (drop read v) → IsForm (front ++ w) v
