use Rattle.wtf8.proofs.Common.{◌∙◌, ap, chars, false≢true, length, sym, take, units, view_units}
use Rattle.wtf8.proofs.lemmas.comparing.TextFronts.{begins_with_front, text_front}
use Rattle.wtf8.proofs.lemmas.strings.Positions.{front_boundary, front_unique}
use Rattle.wtf8.proofs.strings.view.Wtf8.starts_with_utf8.Goals as goal

pub returns-then-not-is_code_point_boundary : goal.returns-then-not-is_code_point_boundary
returns-then-not-is_code_point_boundary c = (
  λ f. absurd (false≢true f),
  λ p. let there = front_boundary (text_front c.args.self.now c.args.text.now p.0 p.1) in
      absurd (false≢true (sym c.if-not-is_code_point_boundary.true ∙ c.is_code_point_boundary.ensures.1 there)),
)

pub returns : goal.returns
returns c =
    let u = view_units c.args.self.now in
    let w = c.args.text.now in (
      λ t. let p = c.eq_utf8.ensures.0 t in (p.0, ap (λ v. take (length v) u) (sym p.1) ∙ (begins_with_front c.slice_to.ensures.units ∙ p.1)),
      λ p. c.eq_utf8.ensures.1 (p.0, front_unique u (length w) _ (units (chars w)) c.slice_to.ensures.units (text_front c.args.self.now w p.0 p.1)),
    )
