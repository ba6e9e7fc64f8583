use Rattle.std.proofs.Common.{take}
use Rattle.std.specs.Prelude.{IsFalse}
use Rattle.wtf8_c.specs.Latin1.{AreLatin1}
use Rattle.wtf8_c.proofs.latin1_out.has_high.Given as goal

-- if none is found, the units before `at` are of Latin-1
abbrev pub invariant-loop-at : goal.invariant-loop-at
invariant-loop-at l = IsFalse l.found → AreLatin1 (take l.at l.units)
