use Rattle.wtf8.specs.OneForm.{form_of}
use Rattle.wtf8.proofs.lemmas.strings.ExtendedForms.{well_formed_text}
use Rattle.wtf8_c.proofs.hashing.wtf8_hash_utf8.Goals as goal

pub returns-clause-form : goal.returns-clause-form
returns-clause-form c u = form_of (well_formed_text c.args.text.now u)
