use Rattle.wtf8.proofs.Common.{◌+◌, ◌≤◌, length}
use Rattle.wtf8.proofs.lemmas.lanes.Moves.{MovedUp}
use Rattle.wtf8.proofs.lanes.moves.move_blocks_to_end.Given as goal

abbrev pub invariant-loop-at : goal.invariant-loop-at
invariant-loop-at l = (l.from ≤ l.at) × (l.at + l.by ≤ length l.initial.bytes) × MovedUp l.initial.bytes l.at l.by l.bytes

abbrev pub decreases-loop-at : goal.decreases-loop-at
decreases-loop-at l = l.at
