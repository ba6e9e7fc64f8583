use Rattle.std.proofs.Common.{◌≡◌, rules}
use Rattle.wtf8.specs.CodePoint.{number}
use Rattle.wtf8_uses.proofs.FrontLemmas.{ShareFront-push}
use Rattle.wtf8_uses.proofs.points.common_points.Goals as goal

pub loop-point-preserved : goal.loop-point-preserved
loop-point-preserved c =
    let same : number c.in-Some.point ≡ number c.in-Some-next.second = search rules in
    ShareFront-push c.loop-point.invariant _ _ _ _ c.in-Some.ensures.steps c.in-Some-next.ensures.steps same
