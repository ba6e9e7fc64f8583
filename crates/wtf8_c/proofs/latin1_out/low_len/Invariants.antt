use Rattle.std.proofs.Common.{take}
use Rattle.wtf8_c.specs.Latin1.{AreLatin1}
use Rattle.wtf8_c.proofs.latin1_out.low_len.Given as goal

-- the units before `at` are of Latin-1
abbrev pub invariant-loop-at : goal.invariant-loop-at
invariant-loop-at l = AreLatin1 (take l.at l.units)
