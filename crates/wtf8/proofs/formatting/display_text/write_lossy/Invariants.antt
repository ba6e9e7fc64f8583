use Rattle.wtf8.proofs.Common.{length, IsFlush, bytes, lossy_points}
use Rattle.wtf8.proofs.lemmas.formatting.DebugTexts.{Continues}
use Rattle.wtf8.proofs.formatting.display_text.write_lossy.Given as goal

abbrev pub invariant-loop-next : goal.invariant-loop-next
invariant-loop-next g l = IsFlush l.fn.f → Continues g.W.Write.write_str_gives l.fn.f (bytes (lossy_points l.view.well_formed.points)) l.f
    (bytes (lossy_points l.rest.well_formed.points))

abbrev pub decreases-loop-next : goal.decreases-loop-next
decreases-loop-next g l = length l.rest.bytes.now
