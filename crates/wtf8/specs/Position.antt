-- Byte positions in a string.
use Rattle.std.specs.Prelude.{◌≡◌, ℕ, List, ◌++◌, length}
use Rattle.wtf8.specs.Unicode.{units}
use Rattle.wtf8.specs.Form.{Reads, bytes}

-- `f` followed by `b` is a reading of `u`, and `f` has `k` bytes (Unicode 3.9, boundaries of code unit sequences).
pub record Splits (u : List ℕ) (k : ℕ) (f b : List ℕ) : Type 0 where
  pub reads : Reads (f ++ b) u
  pub front_len : length (bytes f) ≡ k

-- Byte position `k` is a code point boundary: a reading of the units `u` splits there into a front and a back.
pub record IsBoundary (u : List ℕ) (k : ℕ) : Type 0 where
  pub front : List ℕ
  pub back : List ℕ
  pub splits : Splits u k front back

-- `v` are the units of the code points before the boundary `k`.
pub record IsFront (u : List ℕ) (k : ℕ) (v : List ℕ) : Type 0 where
  pub front : List ℕ
  pub back : List ℕ
  pub splits : Splits u k front back
  pub same_units : units front ≡ v

-- `v` are the units of the code points after the boundary `k`.
pub record IsBack (u : List ℕ) (k : ℕ) (v : List ℕ) : Type 0 where
  pub front : List ℕ
  pub back : List ℕ
  pub splits : Splits u k front back
  pub same_units : units back ≡ v

-- `v` are the units of the code points between the boundaries `begin` and `end`.
pub record IsMiddle (u : List ℕ) (begin end : ℕ) (v : List ℕ) : Type 0 where
  pub front : List ℕ
  pub middle : List ℕ
  pub back : List ℕ
  pub begins : Splits u begin front (middle ++ back)
  pub ends : Splits u end (front ++ middle) back
  pub same_units : units middle ≡ v
