use Rattle.std.proofs.Common.{nat_lt, arith}
use Rattle.std.proofs.lemmas.Grind.{common_steps}
use Rattle.std.proofs.lemmas.List.Sums.{count_by-le-length}
use Rattle.wtf8.specs.View.{view_points}
use Rattle.wtf8_uses.proofs.points.supplementary_count.Goals as goal

pub overflow_add-count : goal.overflow_add-count
overflow_add-count c =
    grind (arith, common_steps, c.code_points-point-items.ensures.fits, count_by-le-length (λ p. nat_lt 0xFFFF p) (view_points c.args.text))
