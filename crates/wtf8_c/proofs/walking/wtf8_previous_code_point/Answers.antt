use Rattle.std.proofs.Common.{refl, sym, ◌∙◌, subst}
use Rattle.std.proofs.lemmas.Bool.{false≢true}
use Rattle.wtf8.specs.Position.{IsBoundary}
use Rattle.wtf8.specs.View.{view_units, view_form}
use Rattle.wtf8.proofs.lemmas.strings.PositionLaws.{start_is_boundary}
use Rattle.wtf8_c.proofs.Outcomes.{other_code}
use Rattle.wtf8_c.proofs.walking.wtf8_previous_code_point.Goals as goal

pub returns-then-not-is_code_point_boundary-clause-end : goal.returns-then-not-is_code_point_boundary-clause-end
returns-then-not-is_code_point_boundary-clause-end c =
    let text = c.as_wtf8-text.result in
    let start = start_is_boundary _ _ (view_form text) in
    let none : ¬ (IsBoundary (view_units text) c.args.position.now) =
    λ b. false≢true (sym c.if-not-is_code_point_boundary.true ∙ c.is_code_point_boundary.ensures.1 b) in
    (other_code _ _ refl, λ e. absurd (none (subst (λ k. IsBoundary (view_units text) k) (sym e) start)))
