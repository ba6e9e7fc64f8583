use Rattle.wtf8.proofs.Common.{arith}
use Rattle.wtf8.proofs.lemmas.strings.ExtendedForms.{all_scalar, scalar_all}
use Rattle.wtf8.proofs.strings.utf8_prefix.Utf8Prefix.after_truncate.Goals as goal

pub returns-then-len-self : goal.returns-then-len-self
returns-then-len-self c d len s = scalar_all d _ (all_scalar d c.args.self.len s (omega (arith, len, c.if-len-self.true)))
