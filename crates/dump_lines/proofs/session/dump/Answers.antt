use Rattle.std.proofs.Common.{◌≡◌, ◌≢◌, ◌<◌, [], ◌∷◌, ◌++◌, length, ap, sym, refl, arith, ◌∙◌, append_assoc}
use Rattle.std.proofs.lemmas.Bool.Decides.{nat_tests}
use Rattle.dump_lines.specs.Lines.{lines}
use Rattle.dump_lines.proofs.Outputs.{HoldsOutputs-push}
use Rattle.dump_lines.proofs.Splitting.{lines-first}
use Rattle.dump_lines.proofs.session.dump.Given
use Rattle.dump_lines.proofs.session.dump.Goals as goal

-- the lines that are left are this one and the lines after it
lines-next : (g : Given.Over) (c : goal.After-unwrap_or-rest g)
    → lines c.loop-rest.rest.now ≡ c.split_first_part.result.0.now ∷ lines c.unwrap_or-rest.result.now
lines-next g c =
    let long : 0 < length c.loop-rest.rest.now = grind (arith, nat_tests) in
    let some : c.loop-rest.rest.now ≢ [] = λ e. absurd (omega (arith, ap length e)) in
    lines-first _ _ _ _ _ some c.split_first_part.ensures.parts c.split_first_part.ensures.whole refl c.unwrap_or-rest.ensures

pub loop-rest-preserved : goal.loop-rest-preserved
loop-rest-preserved g c =
    let front = c.loop-rest.invariant.0 in
    let line = c.split_first_part.result.0.now in
    let is_output = c.in_ok-push_output.ensures.output in
    let written = c.in_ok-push.ensures.items ∙ ap (λ bytes. bytes ++ 10 ∷ []) is_output.2 in (
      front ++ line ∷ [],
      c.loop-rest.invariant.1 ∙ ap (λ rest. front ++ rest) (lines-next g c) ∙ sym (append_assoc front (line ∷ []) _),
      HoldsOutputs-push front _ _ line _ c.loop-rest.invariant.2 is_output.1 written,
    )

pub loop-rest-smaller : goal.loop-rest-smaller
loop-rest-smaller g c = omega (arith, ap length (lines-next g c))
