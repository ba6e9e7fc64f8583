use Rattle.wtf8.proofs.Common.{arith, well_formed_of}
use Rattle.wtf8.proofs.lemmas.strings.ExtendedForms.{all_scalar, scalar-equal_bytes}
use Rattle.wtf8.proofs.buffers.buf.Wtf8Buf.is_utf8.Goals as goal

pub returns : goal.returns
returns g c known = grind (arith, all_scalar, scalar-equal_bytes, well_formed_of, c.len.ensures)
