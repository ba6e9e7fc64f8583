use Rattle.wtf8.proofs.Common.{◌∙◌, refl, well_formed_of}
use Rattle.wtf8.proofs.lemmas.codec.Readings.{same_form}
use Rattle.wtf8.proofs.lemmas.strings.ExtendedForms.{scalar-equal_bytes}
use Rattle.wtf8.proofs.buffers.buf.Wtf8Buf.from_ill_formed_utf16.Goals as goal

pub from_well_formed-requires-clause-well_formed : goal.from_well_formed-requires-clause-well_formed
from_well_formed-requires-clause-well_formed g c = well_formed_of c.in_ok-bytes.ensures.form.form

pub from_well_formed-requires-clause-scalar : goal.from_well_formed-requires-clause-scalar
from_well_formed-requires-clause-scalar g c h =
    let encoded = c.in_ok-bytes.ensures.form in
    c.new.ensures h.points (λ known. scalar-equal_bytes (well_formed_of encoded.form) h refl (encoded.scalar known))

pub returns-clause-units : goal.returns-clause-units
returns-clause-units g c =
    let form = c.in_ok-bytes.ensures.form.form in
    c.from_well_formed.ensures.units (well_formed_of form) ∙ form.reads.same_units

pub returns-clause-form : goal.returns-clause-form
returns-clause-form g c w form =
    c.from_well_formed.ensures.bytes ∙ same_form c.in_ok-bytes.bytes.items w c.args.v.now c.in_ok-bytes.ensures.form.form form
