use Rattle.std.proofs.Common.{◌≡◌, ◌+◌, ◌≤◌, length, take}
use Rattle.wtf8.specs.Form.{bytes}
use Rattle.wtf8_c.proofs.latin1.high_count.Given as goal

-- the code points of the bytes before `at` have a byte each, and the counted ones, at most all of them, one more
abbrev pub invariant-loop-at : goal.invariant-loop-at
invariant-loop-at l = record {
  few : l.high ≤ l.at;
  counted : length (bytes (take l.at l.bytes)) ≡ l.at + l.high;
}
