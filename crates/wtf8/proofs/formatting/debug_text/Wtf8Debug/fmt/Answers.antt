use Rattle.wtf8.proofs.Common.{refl}
use Rattle.wtf8.proofs.lemmas.formatting.DebugTexts.{then_written}
use Rattle.wtf8.proofs.formatting.debug_text.Wtf8Debug.fmt.Goals as goal

pub returns-clause-styled : goal.returns-clause-styled
returns-clause-styled g c = λ flush ok.
    let front = c.in_ok-write_str.ensures.styled flush refl in
    let middle = c.in_ok-write_points.ensures front.flush refl in
    then_written front (then_written middle (c.write_str-2.ensures.styled middle.flush ok))
