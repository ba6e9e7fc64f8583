use Rattle.wtf8.proofs.Common.{◌-◌, length, IsCursor}
use Rattle.wtf8.proofs.units.positions.skip_blocks_while_far.Given as goal

-- `cursor` has the number of units that begin before it, at most `unit`
abbrev pub invariant-loop-cursor : goal.invariant-loop-cursor
invariant-loop-cursor g l = IsCursor l.bytes l.unit l.cursor

abbrev pub decreases-loop-cursor : goal.decreases-loop-cursor
decreases-loop-cursor g l = length l.bytes - l.cursor.position
