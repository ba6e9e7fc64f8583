use Rattle.std.proofs.Common.{take}
use Rattle.std.specs.List.{All}
use Rattle.std.specs.Prelude.{IsTrue}
use Rattle.wtf8.specs.Unicode.{IsCodePoint}
use Rattle.wtf8_c.proofs.points_in.are_code_points.Given as goal

-- whether the numbers before `at` are code points
abbrev pub invariant-loop-at : goal.invariant-loop-at
invariant-loop-at l = record {
  all : IsTrue l.are → All IsCodePoint (take l.at l.points);
  found : All IsCodePoint l.points → IsTrue l.are;
}
