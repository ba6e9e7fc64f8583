use Rattle.std.proofs.Common.{◌≡◌, ◌-◌, ◌≤◌, ◌++◌, length, take}
use Rattle.wtf8_c.proofs.latin1.push_bytes.Given as goal

-- the units of the bytes before `at` are appended, and the capacity has not shrunk
abbrev pub invariant-loop-at : goal.invariant-loop-at
invariant-loop-at l = record {
  within : l.at ≤ length l.bytes;
  units : l.buf.units ≡ l.fn.buf.units ++ take l.at l.bytes;
  capacity : l.fn.buf.capacity ≤ l.buf.capacity;
  old_len : l.old_len ≡ length l.fn.buf.units;
}

abbrev pub decreases-loop-at : goal.decreases-loop-at
decreases-loop-at l = length l.bytes - l.at
