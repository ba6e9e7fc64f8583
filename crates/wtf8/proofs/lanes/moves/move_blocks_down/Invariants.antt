use Rattle.wtf8.proofs.Common.{◌-◌, ◌≤◌, length}
use Rattle.wtf8.proofs.lemmas.lanes.Moves.{MovedDown}
use Rattle.wtf8.proofs.lanes.moves.move_blocks_down.Given as goal

abbrev pub invariant-loop-bytes : goal.invariant-loop-bytes
invariant-loop-bytes l = (l.from ≤ l.at) × (l.at ≤ length l.initial.bytes) × MovedDown l.initial.bytes l.from l.at l.by l.bytes

abbrev pub decreases-loop-bytes : goal.decreases-loop-bytes
decreases-loop-bytes l = length l.bytes - l.at
