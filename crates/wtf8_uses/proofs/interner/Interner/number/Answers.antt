use Rattle.std.proofs.Common.{refl}
use Rattle.wtf8_uses.proofs.interner.Interner.number.Goals as goal

pub returns-in-Some-clause-next : goal.returns-in-Some-clause-next
returns-in-Some-clause-next c = λ new. absurd (new c.in-Some.number ((c.in-Some.ensures c.in-Some.number).0 refl))
