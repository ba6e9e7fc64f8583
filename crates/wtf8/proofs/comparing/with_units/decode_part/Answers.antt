use Rattle.wtf8.proofs.Common.{◌∙◌, ap, arith, length, length-drop, length-take}
use Rattle.wtf8.proofs.lemmas.codec.Readings.{lists_have_lengths}
use Rattle.wtf8.proofs.lemmas.comparing.Parts.{first_boundary}
use Rattle.wtf8.proofs.comparing.with_units.decode_part.Goals as goal

pub decode_all-count-requires : goal.decode_all-count-requires
decode_all-count-requires c =
    let front = c.slice_to.result.well_formed in
    let position = c.boundary_before-position in
    let bytes = ap length (front.encoded ∙ c.slice_to.ensures.bytes) ∙ length-take position.result c.args.view.bytes.now in
    record { room = omega (arith, (lists_have_lengths front.points).units_least, bytes, position.ensures.before, c.min.ensures) }

pub returns-clause-shorter : goal.returns-clause-shorter
returns-clause-shorter c =
    let position = c.boundary_before-position in
    let first = first_boundary c.args.view.well_formed c.requires.nonempty in
    let reached = position.ensures.last first.0 first.4 (omega (arith, first.2, first.3, c.min.ensures, c.len.ensures.bytes, c.requires.room)) in
    omega (arith, ap length c.slice_from.ensures.bytes ∙ length-drop position.result c.args.view.bytes.now)
