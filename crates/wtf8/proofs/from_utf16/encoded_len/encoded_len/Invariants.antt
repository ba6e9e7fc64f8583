use Rattle.wtf8.proofs.Common.{◌-◌, length}
use Rattle.wtf8.specs.private.EncodedLengths.{IsCounted}
use Rattle.wtf8.proofs.from_utf16.encoded_len.encoded_len.Given as goal

abbrev pub invariant-loop-counted : goal.invariant-loop-counted
invariant-loop-counted l = IsCounted l.units l.counted

abbrev pub decreases-loop-counted : goal.decreases-loop-counted
decreases-loop-counted l = length l.units - l.counted.at

abbrev pub invariant-loop-counted-2 : goal.invariant-loop-counted-2
invariant-loop-counted-2 l = IsCounted l.units l.counted

abbrev pub decreases-loop-counted-2 : goal.decreases-loop-counted-2
decreases-loop-counted-2 l = length l.units - l.counted.at
