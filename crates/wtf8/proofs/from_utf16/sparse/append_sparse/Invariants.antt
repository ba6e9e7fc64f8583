use Rattle.wtf8.proofs.Common.{◌≡◌, ◌+◌, ◌-◌, ◌*◌, ◌<◌, ◌≤◌, length, take, slice_index, vec_capacity, ReadsOn}
use Rattle.wtf8.specs.private.Search.{IsTwoOrThreeBytes}
use Rattle.wtf8.proofs.from_utf16.sparse.append_sparse.Given as goal

abbrev pub invariant-loop-count : goal.invariant-loop-count
invariant-loop-count g l = record {
  order : l.fn.from.at ≤ l.at;
  within : l.at < l.first + 32;
  two_or_three_bytes : IsTwoOrThreeBytes (slice_index l.v l.at);
  read : ReadsOn l.initial.bytes.items l.bytes.items l.v l.fn.from.at l.fn.from.is_utf8 l.at l.fn.from.is_utf8;
  begins : take (length l.initial.bytes.items) l.bytes.items ≡ l.initial.bytes.items;
  room : length l.bytes.items + 3 * (l.first + 32 - l.at) + 32 ≤ vec_capacity l.bytes;
  capacity : vec_capacity l.initial.bytes ≤ vec_capacity l.bytes;
}

abbrev pub decreases-loop-count : goal.decreases-loop-count
decreases-loop-count g l = l.first + 32 - l.at
