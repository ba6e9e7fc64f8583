use Rattle.std.proofs.Common.{◌≡◌, ◌-◌, ◌≤◌, ◌++◌, length, take}
use Rattle.wtf8.specs.Unicode.{units}
use Rattle.wtf8_c.proofs.points_in.push_points.Given as goal

-- the units of the code points before `at` are appended, and the capacity has not shrunk
abbrev pub invariant-loop-at : goal.invariant-loop-at
invariant-loop-at l = record {
  within : l.at ≤ length l.points;
  units : l.buf.units ≡ l.fn.buf.units ++ units (take l.at l.points);
  capacity : l.fn.buf.capacity ≤ l.buf.capacity;
  old_len : l.old_len ≡ length l.fn.buf.units;
}

abbrev pub decreases-loop-at : goal.decreases-loop-at
decreases-loop-at l = length l.points - l.at
