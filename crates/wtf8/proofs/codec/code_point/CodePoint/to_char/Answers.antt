use Rattle.wtf8.proofs.Common.{rules}
use Rattle.wtf8.proofs.codec.code_point.CodePoint.to_char.Goals as goal

pub returns : goal.returns
returns c = search rules
