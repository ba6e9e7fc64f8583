use Rattle.wtf8.proofs.Common.{◌+◌, ◌-◌, length}
use Rattle.wtf8.specs.private.Utf8Bytes.{FollowsUpTo}
use Rattle.wtf8.proofs.lanes.utf8.follows_throughout.Given as goal

-- each byte up to index `at + 2` may follow the three before it
abbrev pub invariant-loop-at : goal.invariant-loop-at
invariant-loop-at l = FollowsUpTo l.bytes (l.at + 3)

abbrev pub decreases-loop-at : goal.decreases-loop-at
decreases-loop-at l = length l.bytes - l.at
