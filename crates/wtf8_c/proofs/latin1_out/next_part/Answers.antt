use Rattle.std.proofs.Common.{length, ap, ◌∙◌, arith, length-drop}
use Rattle.wtf8.proofs.lemmas.comparing.Parts.{first_boundary}
use Rattle.wtf8_c.proofs.latin1_out.next_part.Goals as goal

pub returns-clause-less : goal.returns-clause-less
returns-clause-less c =
    let w = c.args.left.bytes.now in
    let position = c.boundary_before-end in
    let first = first_boundary c.args.left.well_formed c.requires in
    let reached = position.ensures.last first.0 first.4 (grind (arith, first.2, first.3, c.min.ensures, c.len.ensures.bytes)) in
    omega (arith, reached, first.1, c.requires, ap length c.slice_from.ensures.bytes ∙ length-drop position.result w)
