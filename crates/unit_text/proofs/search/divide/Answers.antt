use Rattle.std.proofs.Common.{◌∙◌, ◌++◌, ap, sym, append_assoc, take, take-append-drop}
use Rattle.wtf8.specs.View.{view_units}
use Rattle.unit_text.proofs.search.divide.Goals as goal

pub returns-clause-units : goal.returns-clause-units
returns-clause-units c =
    let units = c.args.pattern.units.now in
    let n = c.min.result in
    let after = view_units c.args.pattern.after in
    sym (append_assoc c.split_at.result.0.now c.split_at.result.1.now after)
    ∙ ap (λ t. t ++ after) (ap (λ t. t ++ c.split_at.result.1.now) c.split_at.ensures.front
    ∙ ap (λ t. take n units ++ t) c.split_at.ensures.back ∙ take-append-drop n units)
