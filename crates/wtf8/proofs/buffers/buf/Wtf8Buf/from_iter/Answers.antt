use Rattle.wtf8.proofs.Common.{arith}
use Rattle.wtf8.proofs.buffers.buf.Wtf8Buf.from_iter.Goals as goal

pub returns : goal.returns
returns g c = grind arith
