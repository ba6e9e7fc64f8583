use Rattle.wtf8.proofs.Common.{◌++◌, number, append-nil, encoding, subst, units_of, ExtendsForm}
use Rattle.wtf8.proofs.lemmas.strings.ExtendedForms.{ExtendsForm-append, one_point}
use Rattle.wtf8.proofs.strings.appending.push_unpaired.Goals as goal

pub returns-clause-units : goal.returns-clause-units
returns-clause-units g c =
    let h = c.requires.well_formed in
    let p = number c.args.code_point in
    subst (ExtendsForm c.args.bytes.now.items (c.args.bytes.now.items ++ encoding p)) (append-nil (units_of p))
    (ExtendsForm-append h (one_point p c.args.code_point.in_range) (c.requires.no_pair h))
