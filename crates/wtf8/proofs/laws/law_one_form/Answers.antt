use Rattle.wtf8.proofs.lemmas.strings.Concatenation.{one_form, form_of_one, equal_forms}
use Rattle.wtf8.proofs.laws.law_one_form.Goals as goal

pub returns : goal.returns
returns c = record { unique = one_form; back = form_of_one; equal = equal_forms }
