use Rattle.wtf8.proofs.Common.{◌≤◌, ◌-◌, NoneIn, DifferAt}
use Rattle.wtf8.proofs.lanes.memcmp.mismatch_in_blocks.Given as goal

-- no mismatch before `at`
abbrev pub invariant-loop-at : goal.invariant-loop-at
invariant-loop-at l = (l.at ≤ l.end) × NoneIn (DifferAt l.own l.others) 0 l.at

abbrev pub decreases-loop-at : goal.decreases-loop-at
decreases-loop-at l = l.end - l.at
