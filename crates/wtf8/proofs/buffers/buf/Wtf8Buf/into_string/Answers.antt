use Rattle.wtf8.proofs.Common.{refl, rules, false≢true, arith, well_formed_of}
use Rattle.wtf8.proofs.lemmas.strings.Surrogates.{scalar_if_none, not_scalar_if_some, utf8_if_none}
use Rattle.wtf8.proofs.lemmas.strings.StringLaws.{scalar_in_each_reading}
use Rattle.wtf8.proofs.buffers.buf.Wtf8Buf.into_string.Goals as goal

pub from_utf8_unchecked-requires : goal.from_utf8_unchecked-requires
from_utf8_unchecked-requires g c = grind (arith, utf8_if_none, well_formed_of, c.in-None.ensures)

pub returns-in-None : goal.returns-in-None
returns-in-None g c =
    let scalar = scalar_if_none (well_formed_of c.args.self.form) c.in-None.ensures in
    let each = scalar_in_each_reading _ _ c.args.self.form.reads in
    record { ok = (λ _. scalar, λ _. refl); units = (λ _. each.0 scalar, λ _. refl); bytes = search rules; same_back = tt }

pub returns-in-Some : goal.returns-in-Some
returns-in-Some g c =
    let none = not_scalar_if_some (well_formed_of c.args.self.form) c.in-Some.field-0 c.in-Some.ensures in
    record {
      ok = (λ e. absurd (false≢true e), λ s. absurd (none s));
      units = (λ e. absurd (false≢true e), λ h. absurd (none ((scalar_in_each_reading _ _ c.args.self.form.reads).1 h)));
      bytes = tt;
      same_back = refl;
    }
