use Rattle.wtf8.proofs.Common.{rules}
use Rattle.wtf8.proofs.buffers.buf.Wtf8Buf.capacity.Goals as goal

pub returns-clause-value : goal.returns-clause-value
returns-clause-value g c = search rules
