-- What an iterator over units has left: the trail that is held back, if any, and the code points that are not yet read.
use Rattle.std.specs.Prelude.{ℕ, List, ◌++◌}
use Rattle.wtf8.specs.Unicode.{units}

-- The trail of a supplementary code point whose lead was yielded, if any, and the code points after it.
pub record Unread : Type 0 where
  pub held : List ℕ
  pub points : List ℕ

-- The units that are left: the held trail, if any, then the units of the unread code points.
abbrev pub unread_units : Unread → List ℕ
unread_units s = s.held ++ units s.points
