use Rattle.std.proofs.Common.{◌≡◌, ◌*◌, ◌≤◌, length, take}
use Rattle.wtf8.specs.Unicode.{units}
use Rattle.wtf8_c.proofs.points_in.write_pairs.Given as goal

-- the units of the code points before `at` are written
abbrev pub invariant-loop-at : goal.invariant-loop-at
invariant-loop-at l = record {
  written : take l.n l.block ≡ units (take l.at l.points);
  within : l.n ≤ 2 * l.at;
  size : length l.block ≡ 256;
}
