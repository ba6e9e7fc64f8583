use Rattle.wtf8.proofs.Common.{◌≡◌, ◌-◌, ◌≤◌, drop, length, take, sum_l}
use Rattle.wtf8.specs.private.EncodedLengths.{each_more}
use Rattle.wtf8.proofs.from_utf16.encoded_len.count_blocks.Given as goal

-- the lanes sum up to the bytes beyond one of the units so far
abbrev pub invariant-loop-at : goal.invariant-loop-at
invariant-loop-at g l = record {
  order : l.fn.from.at ≤ l.at;
  within : l.at ≤ l.end;
  lanes : length l.lanes ≡ g.row.N;
  sum : sum_l l.lanes ≡ sum_l (take (l.at - l.fn.from.at) (drop l.fn.from.at (each_more l.units)));
}

abbrev pub decreases-loop-at : goal.decreases-loop-at
decreases-loop-at g l = l.end - l.at
