-- Where one list ends with a front of another, as a search by borders needs it (Knuth, Morris and Pratt).
use Rattle.std.specs.Prelude.{◌≡◌, ℕ, ◌+◌, ◌<◌, ◌≤◌, List, ◌++◌, length, take, drop, slice_index}

-- The list `l` ends with the first `k` items of `s`.
pub record EndsWithFront (l s : List ℕ) (k : ℕ) : Type 0 where
  pub before : List ℕ
  pub within : k ≤ length s
  pub ends : before ++ take k s ≡ l

-- No front of `s` with which `l` ends is longer than `k` items.
pub record IsLongestFront (l s : List ℕ) (k : ℕ) : Type 0 where
  pub is_end : EndsWithFront l s k
  pub longest : (n : ℕ) → k < n → ¬ (EndsWithFront l s n)

-- Entry `n` of `borders` is the length of the longest border of the first `n + 1` items of `s`: of the longest front of
-- `s` with which they end, but not all of them.
abbrev pub AreBorders : List ℕ → List ℕ → ℕ → Type 0
AreBorders s borders count = (n : ℕ) → n < count → IsLongestFront (drop 1 (take (n + 1) s)) s (slice_index borders n)
