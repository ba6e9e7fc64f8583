use Rattle.wtf8.proofs.Common.{refl, ap, IsUtf8-string_bytes, rules, well_formed_of}
use Rattle.wtf8.proofs.lemmas.strings.ExtendedForms.{scalar-equal_bytes, scalar_all, scalar_text, well_formed-equal_text}
use Rattle.wtf8.proofs.buffers.buf.Wtf8Buf.from_string.Goals as goal

pub from_well_formed-requires : goal.from_well_formed-requires
from_well_formed-requires g c =
    let utf8 = IsUtf8-string_bytes c.args.string in
    let text = well_formed-equal_text utf8 (ap (λ v. v.items) c.into_bytes.ensures.value) in
    record { well_formed = text; scalar = λ h. scalar_all h.points _ (scalar-equal_bytes text h refl (scalar_text utf8)) }

pub returns : goal.returns
returns g c =
    let utf8 = IsUtf8-string_bytes c.args.string in
    let text = well_formed-equal_text utf8 (ap (λ v. v.items) c.into_bytes.ensures.value) in
    let result = c.from_well_formed in
    record {
      units = result.ensures.units text;
      bytes = search rules;
      scalar = scalar-equal_bytes text (well_formed_of result.result.form) result.ensures.bytes (scalar_text utf8);
    }
