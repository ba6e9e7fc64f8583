use Rattle.wtf8.proofs.Common.{◌++◌, ap, append-nil, arith, length}
use Rattle.std.proofs.lemmas.Str.{utf8_lossy_empty}
use Rattle.wtf8.proofs.lemmas.strings.ExtendedForms.{ExtendsForm-append, scalar_back_unpaired, scalar_text, well_formed_text}
use Rattle.wtf8.proofs.lemmas.strings.LossyTexts.{is_text}
use Rattle.wtf8.proofs.strings.lossy.push_lossy.Goals as goal

pub returns-then-is_err-clause-units : goal.returns-then-is_err-clause-units
returns-then-is_err-clause-units g c =
    let text = is_text c.args.text.now in
    ExtendsForm-append c.requires (well_formed_text _ text) (scalar_back_unpaired (scalar_text text))

pub returns-then-is_err-clause-empty : goal.returns-then-is_err-clause-empty
returns-then-is_err-clause-empty g c none =
    let nothing = ap (λ w. length (c.args.bytes.now.items ++ w)) (utf8_lossy_empty _ (ap length none)) in
    c.append_parts-appended.ensures.room (omega (arith, nothing, ap length (append-nil c.args.bytes.now.items), c.args.bytes.now.ok))

pub returns-else-is_err-clause-units : goal.returns-else-is_err-clause-units
returns-else-is_err-clause-units g c =
    let text = is_text c.args.text.now in
    ExtendsForm-append c.requires (well_formed_text _ text) (scalar_back_unpaired (scalar_text text))
