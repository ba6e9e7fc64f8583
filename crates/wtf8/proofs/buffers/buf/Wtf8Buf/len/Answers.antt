use Rattle.wtf8.proofs.Common.{rules}
use Rattle.wtf8.proofs.buffers.buf.Wtf8Buf.len.Goals as goal

pub returns : goal.returns
returns g c = search rules
