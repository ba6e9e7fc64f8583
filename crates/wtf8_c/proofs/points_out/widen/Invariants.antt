use Rattle.std.proofs.Common.{◌≡◌, length, take}
use Rattle.wtf8_c.proofs.points_out.widen.Given as goal

-- the units before `at` are written
abbrev pub invariant-loop-at : goal.invariant-loop-at
invariant-loop-at l = record {
  written : take l.at l.out ≡ take l.at l.units;
  size : length l.out ≡ length l.units;
}
