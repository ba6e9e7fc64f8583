use Rattle.wtf8.proofs.Common.{arith}
use Rattle.wtf8.proofs.lemmas.codec.Readings.{units_one}
use Rattle.wtf8.proofs.buffers.buf.Wtf8Buf.push_unit.Goals as goal

-- Search proves both goals too, but takes ten seconds more to refuse a body that breaks them.

pub returns-clause-ok : goal.returns-clause-ok
returns-clause-ok g c = grind (arith, units_one)

pub returns-clause-room : goal.returns-clause-room
returns-clause-room g c = grind (arith, units_one)
