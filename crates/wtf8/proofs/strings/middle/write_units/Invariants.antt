use Rattle.wtf8.proofs.Common.{◌-◌, length}
use Rattle.wtf8.specs.private.Cuts.{WritesForm}
use Rattle.wtf8.proofs.strings.middle.write_units.Given as goal

abbrev pub invariant-loop-read : goal.invariant-loop-read
invariant-loop-read l = WritesForm l.initial.out l.at l.v l.read l.out l.to

abbrev pub decreases-loop-read : goal.decreases-loop-read
decreases-loop-read l = length l.v - l.read
