use Rattle.std.proofs.Common.{length, ap, sym, ◌∙◌}
use Rattle.std.proofs.lemmas.Str.{utf8_valid_len-IsUtf8}
use Rattle.wtf8_c.proofs.Utf8Fronts.{utf8_front-text, bad_len-text}
use Rattle.wtf8_c.proofs.appending.read_front.Goals as goal

pub returns-in-Ok-clause-front : goal.returns-in-Ok-clause-front
returns-in-Ok-clause-front c = c.in-Ok.ensures.cases.0 ∙ sym (utf8_front-text c.args.text.now c.in-Ok.ensures.cases.1)

pub returns-in-Ok-clause-len : goal.returns-in-Ok-clause-len
returns-in-Ok-clause-len c = ap length c.in-Ok.ensures.cases.0 ∙ sym (utf8_valid_len-IsUtf8 c.args.text.now c.in-Ok.ensures.cases.1)

pub returns-in-Ok-clause-bad : goal.returns-in-Ok-clause-bad
returns-in-Ok-clause-bad c = sym (bad_len-text c.args.text.now c.in-Ok.ensures.cases.1)
