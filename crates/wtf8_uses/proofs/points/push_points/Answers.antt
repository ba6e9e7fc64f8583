use Rattle.std.proofs.Common.{ap, ◌++◌, ◌∙◌}
use Rattle.wtf8.specs.Unicode.{units}
use Rattle.wtf8_uses.proofs.points.push_points.Goals as goal

pub returns : goal.returns
returns g c =
    let f = c.in_ok-extend.ensures.items in
    let all = c.law_drained_points.ensures.all f.0 f.1 f.4 in
    f.3 ∙ ap (λ u. c.args.string.now.units ++ units u) (all ∙ (f.2 ∙ c.code_points.ensures.points))
