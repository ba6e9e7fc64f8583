use Rattle.wtf8.proofs.Common.{◌-◌, ◌^◌, length, IsCursor}
use Rattle.wtf8.proofs.units.counts.skip_all_blocks.Given as goal

-- `units` is the number of units that begin before `position`
abbrev pub invariant-loop-position : goal.invariant-loop-position
invariant-loop-position l = IsCursor l.bytes (2 ^ 64 - 1) (record { position = l.position; units = l.units })

abbrev pub decreases-loop-position : goal.decreases-loop-position
decreases-loop-position l = length l.bytes - l.position
