use Rattle.wtf8.proofs.Common.{refl}
use Rattle.wtf8.proofs.lemmas.formatting.DebugTexts.{then_written}
use Rattle.wtf8.proofs.formatting.debug_text.write_last_four_digits.Goals as goal

pub returns : goal.returns
returns g c = λ flush ok.
    let first = c.in_ok-write_hex_digit.ensures flush refl in
    let second = c.in_ok-write_hex_digit-2.ensures first.flush refl in
    let third = c.in_ok-write_hex_digit-3.ensures second.flush refl in
    then_written first (then_written second (then_written third (c.write_hex_digit-4.ensures third.flush ok)))
