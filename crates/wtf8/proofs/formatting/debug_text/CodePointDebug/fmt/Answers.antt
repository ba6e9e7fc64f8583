use Rattle.wtf8.proofs.Common.{ap, refl}
use Rattle.wtf8.specs.Debug.{upper_hex}
use Rattle.wtf8.proofs.lemmas.formatting.DebugTexts.{then_written, written_as}
use Rattle.wtf8.proofs.formatting.debug_text.CodePointDebug.fmt.Goals as goal

pub returns-clause-styled : goal.returns-clause-styled
returns-clause-styled g c = λ flush ok.
    let prefix = c.in_ok-write_str.ensures.styled flush refl in
    then_written prefix (written_as (ap upper_hex c.to_u32.ensures.value) (c.write_upper_hex.ensures prefix.flush ok))
