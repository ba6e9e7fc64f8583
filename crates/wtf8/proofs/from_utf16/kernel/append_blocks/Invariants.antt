use Rattle.wtf8.proofs.Common.{◌≡◌, ◌+◌, ◌-◌, ◌≤◌, length, take, vec_capacity, ReadsOn}
use Rattle.wtf8.proofs.from_utf16.kernel.append_blocks.Given as goal

abbrev pub invariant-loop-bytes : goal.invariant-loop-bytes
invariant-loop-bytes g l = record {
  order : l.fn.from.at ≤ l.read.at;
  within : l.read.at + 4 ≤ length l.v;
  read : ReadsOn l.initial.bytes.items l.bytes.items l.v l.fn.from.at l.fn.from.is_utf8 l.read.at l.read.is_utf8;
  begins : take (length l.initial.bytes.items) l.bytes.items ≡ l.initial.bytes.items;
  capacity : vec_capacity l.initial.bytes ≤ vec_capacity l.bytes;
}

abbrev pub decreases-loop-bytes : goal.decreases-loop-bytes
decreases-loop-bytes g l = length l.v - l.read.at
