use Rattle.wtf8.proofs.Common.{length, ◌-◌}
use Rattle.wtf8.proofs.lemmas.from_utf16.Front.{EncodesFront}
use Rattle.wtf8.proofs.from_utf16.front.write_front.Given as goal

abbrev pub invariant-loop-read : goal.invariant-loop-read
invariant-loop-read l = EncodesFront l.v l.fn.out l.out l.least l.bytes l.read

abbrev pub decreases-loop-read : goal.decreases-loop-read
decreases-loop-read l = length l.v - l.read.at

abbrev pub invariant-loop-read-2 : goal.invariant-loop-read-2
invariant-loop-read-2 l = EncodesFront l.v l.fn.out l.out l.least l.bytes l.read

abbrev pub decreases-loop-read-2 : goal.decreases-loop-read-2
decreases-loop-read-2 l = length l.v - l.read.at
