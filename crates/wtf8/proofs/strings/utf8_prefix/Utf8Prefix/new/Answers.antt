use Rattle.wtf8.proofs.lemmas.strings.ExtendedForms.{scalar_all}
use Rattle.wtf8.proofs.strings.utf8_prefix.Utf8Prefix.new.Goals as goal

pub returns-then-is_utf8 : goal.returns-then-is_utf8
returns-then-is_utf8 c d s = scalar_all d _ (s c.if-is_utf8.true)
