use Rattle.wtf8.proofs.Common.{NoneIn, SurrogateAt}
use Rattle.wtf8.proofs.lanes.search.next_surrogate_bytewise.Given as goal

-- no surrogate begins in `from..at`
abbrev pub invariant-loop-at : goal.invariant-loop-at
invariant-loop-at l = NoneIn (SurrogateAt l.bytes) l.from l.at
