use Rattle.wtf8.proofs.Common.{rules}
use Rattle.wtf8.proofs.buffers.buf.Wtf8Buf.try_truncate.Goals as goal

pub returns-then-not-is_code_point_boundary : goal.returns-then-not-is_code_point_boundary
returns-then-not-is_code_point_boundary g c = search rules

pub truncate-requires : goal.truncate-requires
truncate-requires g c = search rules
