use Rattle.std.proofs.Common.{◌≢◌, take}
use Rattle.std.specs.List.{All}
use Rattle.wtf8_uses.proofs.file_names.first_zero.Given as goal

-- no unit before `index` is 0
abbrev pub invariant-loop-index : goal.invariant-loop-index
invariant-loop-index l = All (λ u. u ≢ 0) (take l.index l.units)
