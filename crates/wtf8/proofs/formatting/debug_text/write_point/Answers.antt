use Rattle.wtf8.proofs.Common.{refl, number, arith}
use Rattle.wtf8.proofs.lemmas.formatting.DebugTexts.{then_written, written_as, escape_surrogate-scalar, escape_surrogate-surrogate}
use Rattle.wtf8.proofs.formatting.debug_text.write_point.Goals as goal

pub returns-in-Some : goal.returns-in-Some
returns-in-Some g c =
    grind (arith, escape_surrogate-scalar, written_as, c.in-Some.ensures.none.1, c.in-Some.ensures.some, c.write_char.ensures.styled)

pub returns-in_ok-write_upper_hex-in-None : goal.returns-in_ok-write_upper_hex-in-None
returns-in_ok-write_upper_hex-in-None g c = λ flush ok.
    let front = c.in_ok-write_str-in-None.ensures.styled flush refl in
    let middle = c.in_ok-write_upper_hex-in-None.ensures front.flush refl in
    let surrogate =
    escape_surrogate-surrogate c.to_u32.result (number c.args.code_point) (c.in-None.ensures.none.0 refl) c.to_u32.ensures.value in
    written_as surrogate (then_written front (then_written middle (c.write_str-in-None.ensures.styled middle.flush ok)))
