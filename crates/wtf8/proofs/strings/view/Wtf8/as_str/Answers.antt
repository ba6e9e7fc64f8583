use Rattle.wtf8.proofs.Common.{refl, rules, view_form, false≢true}
use Rattle.wtf8.proofs.lemmas.strings.StringLaws.{scalar_in_each_reading}
use Rattle.wtf8.proofs.lemmas.strings.Surrogates.{scalar_if_none, not_scalar_if_some, utf8_if_none}
use Rattle.wtf8.proofs.strings.view.Wtf8.as_str.Goals as goal

pub from_utf8_unchecked-requires : goal.from_utf8_unchecked-requires
from_utf8_unchecked-requires c = utf8_if_none c.args.self.now.well_formed c.in-None.ensures

pub returns-in-None : goal.returns-in-None
returns-in-None c =
    let scalar = scalar_if_none c.args.self.now.well_formed c.in-None.ensures in
    let each = scalar_in_each_reading _ _ (view_form c.args.self.now).reads in
    record { some = (λ _. scalar, λ _. refl); units = (λ _. each.0 scalar, λ _. refl); bytes = search rules }

pub returns-in-Some : goal.returns-in-Some
returns-in-Some c =
    let none = not_scalar_if_some c.args.self.now.well_formed c.in-Some.field-0 c.in-Some.ensures in
    record {
      some = (λ e. absurd (false≢true e), λ s. absurd (none s));
      units = (λ e. absurd (false≢true e), λ h. absurd (none ((scalar_in_each_reading _ _ (view_form c.args.self.now).reads).1 h)));
      bytes = tt;
    }
