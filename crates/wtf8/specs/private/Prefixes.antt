-- Prefixes: units that are encoded part by part, and the front of a string in which no surrogate begins.
use Rattle.std.specs.Prelude.{◌≡◌, ℕ, ◌<◌, ◌≤◌, Bool, IsTrue, List, ◌∷◌, ◌++◌, length, take, drop, vec_capacity}
use Rattle.std.specs.declared.vec.Vec.{Vec}
use lib.Lanes.{Each1}
use mathlib.Core.HLevel.{Π_prop, ⊥_prop}
use Rattle.wtf8.specs.Concatenation.{MeetsAsPair}
use Rattle.wtf8.specs.Form.{IsForm, bytes}
use Rattle.wtf8.specs.Surrogates.{AreScalar}
use Rattle.wtf8.specs.Unicode.{IsSurrogate}

-- The bytes are the form of the units; if `is_utf8`, no code point is a surrogate (Unicode 3.9, "Unicode scalar value").
pub record IsKnownForm (w u : List ℕ) (is_utf8 : Bool) : Type 0 where
  pub form : IsForm w u
  pub scalar : IsTrue is_utf8 → AreScalar form.points

-- Each of the units is below 0x80, so it is its own code point and its own byte (Unicode 3.9, "UTF-8", Table 3-6).
abbrev pub AreAscii : List ℕ → Type 0
AreAscii u = Each1 (λ n. n < 0x80) u

-- The bytes are the form of the units `front` and the units of `u` before index `at`, as `IsKnownForm` says, and no pair
-- is divided there.
pub record IsReadTo (w front u : List ℕ) (at : ℕ) (is_utf8 : Bool) : Type 0 where
  pub within : at ≤ length u
  pub divides_no_pair : ¬ (MeetsAsPair (front ++ take at u) (drop at u))
  pub form : IsKnownForm w (front ++ take at u) is_utf8

-- After any front, bytes `old` that are read up to index `from` become bytes `new` that are read up to index `to`.
abbrev pub ReadsOn : List ℕ → List ℕ → List ℕ → ℕ → Bool → ℕ → Bool → Type 0
ReadsOn old new u from was to is = (front : List ℕ) → IsReadTo old front u from was → IsReadTo new front u to is

-- The form of `front` and any first units of `u` is no longer than `capacity`.
abbrev pub FrontsFit : List ℕ → List ℕ → ℕ → Type 0
FrontsFit front u capacity = (n : ℕ) (w : List ℕ) → IsForm w (front ++ take n u) → length w ≤ capacity

-- The bytes of `old` are read up to index `from` after some front, and all that follows fits its capacity.
abbrev pub HasRoomFrom : {Z : Type 0} → Vec ℕ Z → List ℕ → ℕ → Bool → Type 0
HasRoomFrom old u from was = (front : List ℕ) × IsReadTo old.items front u from was × FrontsFit front u (vec_capacity old)

-- The bytes of `old` and then `w` are read up to index `from` after some front, and all units fit the capacity of `old`.
abbrev pub HasRoomAfter : {Z : Type 0} → Vec ℕ Z → List ℕ → List ℕ → ℕ → Type 0
HasRoomAfter old w u from = (front : List ℕ) × (was : Bool) × IsReadTo (old.items ++ w) front u from was × FrontsFit front u (vec_capacity old)

-- Each of the units is a scalar value below 0x10000 (Unicode 3.9, "Unicode scalar value").
abbrev pub AreScalarUnits : List ℕ → Type 0
AreScalarUnits u = Each1 (λ n. (n < 0x10000) × ¬ (IsSurrogate n)) u

-- No code point of `c` that begins before byte position `end` is a surrogate.
abbrev pub AreScalarTo : ℕ → List ℕ → Type 0
AreScalarTo end c = (f : List ℕ) (p : ℕ) (b : List ℕ) → c ≡ f ++ p ∷ b → length (bytes f) < end → ¬ (IsSurrogate p)

-- `AreScalarTo` has at most one proof, as is required of a fact that a type holds.
pub AreScalarTo-prop : (end : ℕ) (c : List ℕ) → IsProp (AreScalarTo end c)
AreScalarTo-prop end c = Π_prop λ f. Π_prop λ p. Π_prop λ b. Π_prop λ _. Π_prop λ _. Π_prop λ _. ⊥_prop
