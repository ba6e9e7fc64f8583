use Rattle.wtf8.proofs.Common.{◌≤◌, ◌-◌, ◌<◌, NoneIn, DifferAt}
use Rattle.wtf8.proofs.lanes.memcmp.skip_equal_strides.Given as goal

-- no mismatch before `at`, which is not 0
abbrev pub invariant-loop-at : goal.invariant-loop-at
invariant-loop-at l = (0 < l.at) × (l.at ≤ l.end) × NoneIn (DifferAt l.own l.others) 0 l.at

abbrev pub decreases-loop-at : goal.decreases-loop-at
decreases-loop-at l = l.end - l.at
