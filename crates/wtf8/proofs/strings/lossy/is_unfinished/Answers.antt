use Rattle.wtf8.proofs.Common.{arith, false≢true}
use Rattle.std.proofs.lemmas.Str.{utf8_valid_len-IsUtf8}
use Rattle.wtf8.proofs.strings.lossy.is_unfinished.Goals as goal

pub returns-in-Ok : goal.returns-in-Ok
returns-in-Ok c =
    (λ t. absurd (false≢true t), λ u. absurd (omega (arith, u.0, u.1, utf8_valid_len-IsUtf8 _ c.in-Ok.ensures.cases.1)))
