use Rattle.wtf8.proofs.Common.{◌≡◌, ◌*◌, ◌≤◌, length, chunk, sum_utf16_len, Each1, sum_l}
use Rattle.wtf8.proofs.units.counts.utf16_len_of_blocks.Given as goal

-- the lanes sum up to the units so far, and each block added at most 2 to a lane
abbrev pub invariant-loop-block : goal.invariant-loop-block
invariant-loop-block l =
    (sum_l l.lanes ≡ sum_utf16_len (chunk l.position (l.block * 64) l.bytes)) × (length l.lanes ≡ 64) × Each1 (λ a. a ≤ l.block * 2) l.lanes
