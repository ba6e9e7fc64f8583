use Rattle.wtf8.proofs.Common.{NoneIn, DifferAt}
use Rattle.wtf8.proofs.lanes.memcmp.mismatch_bytewise.Given as goal

-- no mismatch before `at`
abbrev pub invariant-loop-at : goal.invariant-loop-at
invariant-loop-at l = NoneIn (DifferAt l.own l.others) 0 l.at
