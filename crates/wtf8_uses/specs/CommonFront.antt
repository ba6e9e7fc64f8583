-- The longest common prefix of two lists.
use Rattle.std.specs.Prelude.{◌≡◌, ◌≢◌, ℕ, List, ◌∷◌, ◌++◌, length}

-- `u` and `v` begin with the same `count` numbers, followed by `rest` and `other`.
pub record ShareFront (u v rest other : List ℕ) (count : ℕ) : Type 0 where
  pub front : List ℕ
  pub joined : u ≡ front ++ rest
  pub other_joined : v ≡ front ++ other
  pub counted : length front ≡ count

-- The longest common prefix of `u` and `v` has `count` numbers: the next ones differ, if both lists have one.
pub record IsCommonFront (u v : List ℕ) (count : ℕ) : Type 0 where
  pub rest : List ℕ
  pub other : List ℕ
  pub shared : ShareFront u v rest other count
  pub differ : (x y : ℕ) (xs ys : List ℕ) → rest ≡ x ∷ xs → other ≡ y ∷ ys → x ≢ y
