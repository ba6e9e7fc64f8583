use Rattle.std.proofs.Common.{◌≡◌, ◌+◌, nat_lt}
use Rattle.std.specs.List.{count_by}
use Rattle.wtf8.specs.View.{view_points}
use Rattle.wtf8_uses.proofs.points.supplementary_count.Given as goal

-- the count so far and the count of the code points that are left add up to the count of all
abbrev pub invariant-loop-point : goal.invariant-loop-point
invariant-loop-point l =
    l.count + count_by (λ p. nat_lt 0xFFFF p) l.point-iterator ≡ count_by (λ p. nat_lt 0xFFFF p) (view_points l.fn.text)
