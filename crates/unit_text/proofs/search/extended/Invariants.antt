use Rattle.std.proofs.Common.{take}
use Rattle.unit_text.proofs.BorderLemmas.{IsCandidate}
use Rattle.unit_text.proofs.search.extended.Given as goal

-- no longer front with which the first `matched` units end goes on with `unit`
abbrev pub invariant-loop-border : goal.invariant-loop-border
invariant-loop-border l = IsCandidate l.units (take l.matched l.units) l.unit l.border

abbrev pub decreases-loop-border : goal.decreases-loop-border
decreases-loop-border l = l.border
