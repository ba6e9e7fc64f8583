use Rattle.std.proofs.Common.{refl}
use Rattle.wtf8.proofs.lemmas.strings.StringLaws.{scalar_in_each_reading}
use Rattle.unit_text.proofs.indexed.IndexedBuf.as_str.Goals as goal

pub returns-in-Some-clause-units : goal.returns-in-Some-clause-units
returns-in-Some-clause-units g c =
    (λ _. (scalar_in_each_reading _ _ c.args.self.now.form.reads).0 (c.in-Some.ensures.scalar refl), λ _. refl)
