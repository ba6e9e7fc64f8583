use Rattle.wtf8.proofs.lemmas.strings.ExtendedForms.{scalar_front_unpaired}
use Rattle.wtf8.proofs.strings.appending.may_complete_lead.Goals as goal

pub returns-then-is_utf8 : goal.returns-then-is_utf8
returns-then-is_utf8 c points scalar meets = absurd (scalar_front_unpaired (scalar c.if-is_utf8.true) meets)
