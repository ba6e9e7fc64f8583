use Rattle.std.proofs.Common.{ap, ◌∙◌}
use Rattle.std.proofs.lemmas.Result.{IfOk-weaker}
use Rattle.wtf8.specs.Unicode.{units}
use Rattle.wtf8_uses.proofs.points.copy_by_points.Goals as goal

pub returns : goal.returns
returns g c =
    let all = c.law_drained_points.ensures.all in
    IfOk-weaker c.from_iter.result _ _
    (λ copy f. f.4 ∙ ap units (all f.0 f.1 f.3 ∙ (f.2 ∙ c.code_points.ensures.points))) c.from_iter.ensures
