use Rattle.std.proofs.Common.{◌≡◌}
use Rattle.std.specs.List.{repeat}
use Rattle.wtf8_uses.proofs.string_prototype.texts.repeat.Given as goal

-- `whole` is the text repeated `counter` times
abbrev pub invariant-loop : goal.invariant-loop
invariant-loop g l = l.whole ≡ repeat l.counter l.text
