use Rattle.std.proofs.Common.{length}
use Rattle.wtf8_uses.specs.CommonFront.{ShareFront}
use Rattle.wtf8_uses.proofs.points.common_points.Given as goal

-- the first `count` code points are equal, and the iterators have the rest
abbrev pub invariant-loop-point : goal.invariant-loop-point
invariant-loop-point l = ShareFront l.initial.points l.initial.others l.points l.others l.count

-- fewer code points are left
abbrev pub decreases-loop-point : goal.decreases-loop-point
decreases-loop-point l = length l.points
