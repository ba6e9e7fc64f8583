use Rattle.wtf8.proofs.Common.{length, IsFlush, flat_map, escape_surrogate}
use Rattle.wtf8.proofs.lemmas.formatting.DebugTexts.{Continues}
use Rattle.wtf8.proofs.formatting.debug_text.write_points.Given as goal

abbrev pub invariant-loop-code_point : goal.invariant-loop-code_point
invariant-loop-code_point g l = IsFlush l.fn.f → Continues g.W.Write.write_str_gives l.fn.f
    (flat_map escape_surrogate l.text.well_formed.points) l.f (flat_map escape_surrogate l.rest.well_formed.points)

abbrev pub decreases-loop-code_point : goal.decreases-loop-code_point
decreases-loop-code_point g l = length l.rest.well_formed.points
