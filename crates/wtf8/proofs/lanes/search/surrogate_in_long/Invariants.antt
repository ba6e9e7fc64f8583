use Rattle.wtf8.proofs.Common.{◌≤◌, ◌-◌, length, NoneIn, SurrogateAt}
use Rattle.wtf8.proofs.lanes.search.surrogate_in_long.Given as goal

-- no surrogate begins in `from..at`
abbrev pub invariant-loop-at : goal.invariant-loop-at
invariant-loop-at l = (l.from ≤ l.at) × NoneIn (SurrogateAt l.bytes) l.from l.at

abbrev pub decreases-loop-at : goal.decreases-loop-at
decreases-loop-at l = length l.bytes - l.at
