use Rattle.wtf8.proofs.lemmas.strings.ExtendedForms.{ExtendsForm-append, scalar_back_unpaired, scalar_text, well_formed_text}
use Rattle.wtf8.proofs.strings.appending.push_str.Goals as goal

pub returns-clause-units : goal.returns-clause-units
returns-clause-units g c =
    ExtendsForm-append c.requires (well_formed_text c.args.other.now c.utf8.other) (scalar_back_unpaired (scalar_text c.utf8.other))
