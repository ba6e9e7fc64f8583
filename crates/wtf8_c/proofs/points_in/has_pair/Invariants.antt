use Rattle.std.proofs.Common.{◌<◌, take}
use Rattle.std.specs.List.{All}
use Rattle.std.specs.Prelude.{IsFalse}
use Rattle.wtf8_c.proofs.points_in.has_pair.Given as goal

-- if none is found, the code points before `at` have one unit each
abbrev pub invariant-loop-at : goal.invariant-loop-at
invariant-loop-at l = IsFalse l.found → All (λ p. p < 0x10000) (take l.at l.points)
