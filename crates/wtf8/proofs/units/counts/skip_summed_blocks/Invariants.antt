use Rattle.wtf8.proofs.Common.{◌-◌, length, IsCursor}
use Rattle.wtf8.proofs.units.counts.skip_summed_blocks.Given as goal

-- `units` is the number of units that begin before `position`, at most `unit`
abbrev pub invariant-loop-position : goal.invariant-loop-position
invariant-loop-position l = IsCursor l.bytes l.unit (record { position = l.position; units = l.units })

abbrev pub decreases-loop-position : goal.decreases-loop-position
decreases-loop-position l = length l.bytes - l.position
