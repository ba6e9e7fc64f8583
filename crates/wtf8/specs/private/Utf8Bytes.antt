-- Which bytes may follow one another in UTF-8.
use Rattle.std.specs.Prelude.{◌≡◌, ℕ, suc, ◌<◌, ◌≤◌, ◌⊎◌, List, ◌∷◌, length, slice_index}

-- A continuation byte (Unicode 3.9, "UTF-8", Table 3-6).
abbrev pub IsContinuation : ℕ → Type 0
IsContinuation b = (0x80 ≤ b) × (b < 0xC0)

-- `b` may follow `z`, `y` and `x` (Unicode 3.9, "UTF-8", Table 3-7): it is a continuation byte if and only if a lead
-- byte before asks for one, no byte that leads nothing, and after E0, ED, F0 and F4 in the range of a second byte.
pub record MayFollow (z y x b : ℕ) : Type 0 where
  pub continues : (0xC0 ≤ x) ⊎ ((0xE0 ≤ y) ⊎ (0xF0 ≤ z)) → IsContinuation b
  pub begins : x < 0xC0 → y < 0xE0 → z < 0xF0 → ¬ (IsContinuation b)
  pub leads : 0xC0 ≤ b → (0xC2 ≤ b) × (b < 0xF5)
  pub after_E0 : x ≡ 0xE0 → 0xA0 ≤ b
  pub after_ED : x ≡ 0xED → b < 0xA0
  pub after_F0 : x ≡ 0xF0 → 0x90 ≤ b
  pub after_F4 : x ≡ 0xF4 → b < 0x90

-- The byte at index `i + 3` may follow the three before it.
abbrev pub FollowsAt : List ℕ → ℕ → Type 0
FollowsAt w i = MayFollow (slice_index w i) (slice_index w (suc i)) (slice_index w (suc (suc i))) (slice_index w (suc (suc (suc i))))

-- `FollowsAt` holds of each index in `from..end`.
abbrev pub FollowsIn : List ℕ → ℕ → ℕ → Type 0
FollowsIn w from end = (i : ℕ) → from ≤ i → i < end → FollowsAt w i

-- There are `n` bytes at the front, each of which may follow the three before it, where zeros stand before the first.
abbrev pub FollowsUpTo : List ℕ → ℕ → Type 0
FollowsUpTo w n = (n ≤ length w) × FollowsIn (0 ∷ 0 ∷ 0 ∷ w) 0 n

-- No continuation byte is missing after `z`, `y` and `x` (Unicode 3.9, "UTF-8", Table 3-6).
abbrev pub IsWholeAfter : ℕ → ℕ → ℕ → Type 0
IsWholeAfter z y x = (z < 0xF0) × (y < 0xE0) × (x < 0xC0)
