use Rattle.wtf8.proofs.Common.{false≢true, arith}
use Rattle.wtf8.proofs.lemmas.codec.Scalars.{replace_surrogate-surrogate, kind_by_surrogates}
use Rattle.wtf8.proofs.codec.code_point.CodePoint.to_char_lossy.Goals as goal

pub returns-clause-value : goal.returns-clause-value
returns-clause-value c =
    grind (arith, replace_surrogate-surrogate, kind_by_surrogates, false≢true, c.unwrap_or.ensures)
