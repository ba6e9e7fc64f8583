use Rattle.wtf8.proofs.Common.{refl, ap, flat_map, escape_surrogate}
use Rattle.wtf8.proofs.lemmas.formatting.DebugTexts.{Continues-start, Continues-write, Continues-end}
use Rattle.wtf8.proofs.formatting.debug_text.write_points.Goals as goal

pub loop-code_point-init : goal.loop-code_point-init
loop-code_point-init g c = Continues-start (flat_map escape_surrogate c.args.text.well_formed.points)

pub loop-code_point-preserved : goal.loop-code_point-preserved
loop-code_point-preserved g c = λ flush.
    let before = c.loop-code_point.invariant flush in
    Continues-write before (c.in_ok-write_point.ensures before.flush refl) (ap (flat_map escape_surrogate) c.in-Some.ensures.some)

pub returns : goal.returns
returns g c = λ flush ok. Continues-end (c.loop-code_point.invariant flush) (ap (flat_map escape_surrogate) c.in_default.ensures.none)
