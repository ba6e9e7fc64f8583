use Rattle.std.proofs.Common.{◌≡◌, length, take}
use Rattle.wtf8_c.proofs.points_in.narrow.Given as goal

-- the code points before `at` are written
abbrev pub invariant-loop-at : goal.invariant-loop-at
invariant-loop-at l = record {
  written : take l.at l.block ≡ take l.at l.points;
  size : length l.block ≡ 256;
}
