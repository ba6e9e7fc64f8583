use Rattle.wtf8.proofs.Common.{ℕ, List, ◌+◌, ◌*◌, ◌≤◌, ◌++◌, length, take, ReadsOn}
use Rattle.wtf8.proofs.from_utf16.kernel.write_blocks.Given as goal

-- the bytes before index `end` encode the units up to `to.at`; there are units and room for all blocks
abbrev pub invariant-loop : goal.invariant-loop
invariant-loop l = record {
  units : l.fn.from.at + 16 * l.blocks ≤ length l.v;
  room : l.len + 48 * l.blocks + 4 ≤ length l.out;
  order : l.fn.from.at + l.counter ≤ l.to.at;
  last : l.to.at ≤ l.fn.from.at + 16 * l.counter;
  within : l.end ≤ l.len + 48 * l.counter;
  read : (w : List ℕ) → ReadsOn (w ++ take l.len l.initial.out) (w ++ take l.end l.out) l.v l.fn.from.at l.fn.from.is_utf8 l.to.at l.to.is_utf8;
}
