-- What contracts see of a `CodePoint`.
use Rattle.std.specs.Prelude.{ℕ, List, map}
use Rattle.wtf8.specs.declared.codec.code_point.CodePoint.{CodePoint}

-- The value of a code point.
abbrev pub number : CodePoint → ℕ
number p = p.value

-- The values of a list of code points.
abbrev pub numbers : List CodePoint → List ℕ
numbers ps = map number ps
