use Rattle.std.proofs.Common.{take}
use Rattle.std.specs.Prelude.{IsFalse}
use Rattle.wtf8.specs.Surrogates.{AreScalar}
use Rattle.wtf8_c.proofs.points_out.has_surrogate.Given as goal

-- if none is found, the units before `at` are no surrogates
abbrev pub invariant-loop-at : goal.invariant-loop-at
invariant-loop-at l = IsFalse l.found → AreScalar (take l.at l.units)
