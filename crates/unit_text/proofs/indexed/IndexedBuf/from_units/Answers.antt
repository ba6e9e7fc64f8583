use Rattle.std.proofs.Common.{rules}
use Rattle.std.proofs.Common.{ap, ◌∙◌}
use Rattle.wtf8.specs.UnitString.{UnitString}
use Rattle.unit_text.proofs.indexed.IndexedBuf.from_units.Goals as goal

pub returns-clause-form : goal.returns-clause-form
returns-clause-form g c = λ w f. ap (λ (s : UnitString). s.bytes) c.counted.ensures ∙ c.in_ok-text.ensures.form w f

pub counted-requires : goal.counted-requires
counted-requires c = search rules
