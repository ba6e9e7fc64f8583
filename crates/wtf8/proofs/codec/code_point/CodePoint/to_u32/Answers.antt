use Rattle.wtf8.proofs.Common.{rules}
use Rattle.wtf8.proofs.codec.code_point.CodePoint.to_u32.Goals as goal

pub returns-clause-value : goal.returns-clause-value
returns-clause-value c = search rules
