use Rattle.wtf8.proofs.Common.{sym, subst, AreScalar}
use Rattle.wtf8.proofs.lemmas.strings.ExtendedForms.{scalar_text, well_formed-equal_text}
use Rattle.wtf8.proofs.strings.view.Wtf8.from_str.Goals as goal

pub from_well_formed-requires : goal.from_well_formed-requires
from_well_formed-requires c = well_formed-equal_text c.utf8.value c.as_bytes.ensures.value

pub returns-clause-points : goal.returns-clause-points
returns-clause-points c = c.from_well_formed.ensures.points (well_formed-equal_text c.utf8.value c.as_bytes.ensures.value)

pub returns-clause-scalar : goal.returns-clause-scalar
returns-clause-scalar c = subst AreScalar (sym (returns-clause-points c)) (scalar_text c.utf8.value)
