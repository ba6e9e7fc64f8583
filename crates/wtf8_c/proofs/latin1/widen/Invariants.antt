use Rattle.std.proofs.Common.{◌≡◌, length, take}
use Rattle.wtf8_c.proofs.latin1.widen.Given as goal

-- the bytes before `at` are written
abbrev pub invariant-loop-at : goal.invariant-loop-at
invariant-loop-at l = record {
  written : take l.at l.units ≡ take l.at l.bytes;
  size : length l.units ≡ length l.fn.units;
}
