-- File names and paths: the parts of a list that is cut at a separator, `.` or 0.
use Rattle.std.specs.Prelude.{◌≡◌, ◌≢◌, ◌==◌, ◌||◌, ℕ, Bool, ◌+◌, ◌<◌, ◌⊎◌, List, ◌∷◌, ◌++◌, length, take, slice_index}
use Rattle.std.specs.List.{All}

-- `x` is `a` or `b`.
abbrev pub IsEither : ℕ → ℕ → ℕ → Type 0
IsEither a b x = (x ≡ a) ⊎ (x ≡ b)

-- The list contains neither `a` nor `b`.
pub record HasNeither (a b : ℕ) (u : List ℕ) : Type 0 where
  pub first : All (λ x. x ≢ a) u
  pub second : All (λ x. x ≢ b) u

-- `u` is cut at its last `a` or `b`: `front` is before it, and `back`, which contains neither, after it.
pub record IsCutAtLast (a b : ℕ) (u front back : List ℕ) : Type 0 where
  pub separator : ℕ
  pub is_either : IsEither a b separator
  pub joined : u ≡ front ++ separator ∷ back
  pub none : HasNeither a b back

-- The list ends with `a` or `b`.
pub record EndsWithEither (a b : ℕ) (u : List ℕ) : Type 0 where
  pub index : ℕ
  pub is_last : index + 1 ≡ length u
  pub is_either : IsEither a b (slice_index u index)

-- The list `parts` begins with the parts in `front`, in order.
pub record BeginsWith (parts front : List (List ℕ)) : Type 0 where
  pub rest : List (List ℕ)
  pub joined : parts ≡ front ++ rest

-- `v` is the part of `u` before its first 0, or all of `u` if it has none.
pub record IsBeforeZero (u v : List ℕ) : Type 0 where
  pub index : ℕ
  pub front : v ≡ take index u
  pub none : All (λ x. x ≢ 0) v
  pub zero : index < length u → slice_index u index ≡ 0

-- Whether the unit separates components of a path: `/` or `\`.
abbrev pub is_separator : ℕ → Bool
is_separator unit = unit == 0x2F || unit == 0x5C
