-- Code points between boundaries.
use Rattle.std.specs.Prelude.{ℕ, List, [], ◌∷◌, ◌++◌}
use Rattle.wtf8.specs.Form.{Reads}
use Rattle.wtf8.specs.Position.{Splits}

-- The code point between the boundaries `begin` and `end` of the units `u` is `p` (Unicode 3.9, boundaries of code unit
-- sequences).
pub record IsPointBetween (u : List ℕ) (begin end p : ℕ) : Type 0 where
  pub front : List ℕ
  pub back : List ℕ
  pub begins : Splits u begin front (p ∷ back)
  pub ends : Splits u end (front ++ p ∷ []) back

-- The code points between the boundaries `begin` and `end` of the units `u` are `c` (Unicode 3.9, boundaries of code unit
-- sequences).
pub record ArePointsBetween (u : List ℕ) (begin end : ℕ) (c : List ℕ) : Type 0 where
  pub front : List ℕ
  pub back : List ℕ
  pub begins : Splits u begin front (c ++ back)
  pub ends : Splits u end (front ++ c) back

-- The last code point of the reading of the units `u` is `p` (WTF-8, "Potentially ill-formed UTF-16").
pub record EndsWithPoint (u : List ℕ) (p : ℕ) : Type 0 where
  pub front : List ℕ
  pub reads : Reads (front ++ p ∷ []) u
