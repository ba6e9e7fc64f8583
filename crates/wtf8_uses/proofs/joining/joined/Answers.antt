use Rattle.wtf8_uses.proofs.joining.joined.Goals as goal

pub returns-clause-bytes : goal.returns-clause-bytes
returns-clause-bytes c = λ w form. c.law_equal_strings.ensures.form_of_buffer c.in_ok-whole.whole w _ form c.in_ok-whole.ensures
