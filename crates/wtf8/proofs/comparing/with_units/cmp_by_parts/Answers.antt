use Rattle.wtf8.proofs.Common.{arith, length-take-le}
use Rattle.wtf8.proofs.lemmas.comparing.Parts.{cmp_decided, cmp_undecided}
use Rattle.wtf8.proofs.comparing.with_units.cmp_by_parts.Goals as goal

pub returns-then-is_ne : goal.returns-then-is_ne
returns-then-is_ne g c = grind (arith, cmp_decided, length-take-le)

pub loop-rest-preserved : goal.loop-rest-preserved
loop-rest-preserved g c = grind (arith, cmp_undecided, length-take-le)
