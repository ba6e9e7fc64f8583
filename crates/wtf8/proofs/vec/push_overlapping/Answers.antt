use Rattle.wtf8.proofs.Common.{arith}
use Rattle.wtf8.proofs.lemmas.lanes.Copies.{ends_appended}
use Rattle.wtf8.proofs.vec.push_overlapping.Goals as goal

pub returns : goal.returns
returns g c = grind (arith, ends_appended)
