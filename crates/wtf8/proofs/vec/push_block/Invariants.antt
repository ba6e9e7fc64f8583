use Rattle.wtf8.proofs.Common.{◌≡◌, ◌++◌, take, vec_capacity}
use Rattle.wtf8.proofs.vec.push_block.Given as goal

-- the first `at` items of the block are appended, and the capacity is unchanged
abbrev pub invariant-loop-at : goal.invariant-loop-at
invariant-loop-at g l = record {
  items : l.list.items ≡ l.initial.list.items ++ take l.at l.block;
  capacity : vec_capacity l.list ≡ vec_capacity l.initial.list;
}
