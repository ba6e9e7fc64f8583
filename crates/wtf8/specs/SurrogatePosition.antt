-- Where the next surrogate is.
use Rattle.std.specs.Prelude.{ℕ, List, [], ◌∷◌, ◌++◌}
use Rattle.wtf8.specs.Position.{Splits}
use Rattle.wtf8.specs.Surrogates.{AreScalar}
use Rattle.wtf8.specs.Unicode.{IsSurrogate}

-- The code points of the units `u` from boundary `begin` to boundary `end` are scalar values, `text`, and after them the
-- surrogate `p` (Unicode 3.8, "Surrogates").
pub record IsNextSurrogate (u : List ℕ) (begin end p : ℕ) : Type 0 where
  pub front : List ℕ
  pub text : List ℕ
  pub back : List ℕ
  pub begins : Splits u begin front (text ++ p ∷ back)
  pub ends : Splits u end (front ++ (text ++ p ∷ [])) back
  pub scalar : AreScalar text
  pub surrogate : IsSurrogate p

-- No code point of the units `u` after the boundary `begin` is a surrogate (Unicode 3.8, "Surrogates").
pub record IsTextFrom (u : List ℕ) (begin : ℕ) : Type 0 where
  pub front : List ℕ
  pub back : List ℕ
  pub splits : Splits u begin front back
  pub scalar : AreScalar back
