use Rattle.wtf8.proofs.Common.{refl}
use Rattle.wtf8.proofs.lemmas.codec.Readings.{same_points}
use Rattle.wtf8.proofs.strings.view.Wtf8.from_well_formed.Goals as goal

pub returns-clause-points : goal.returns-clause-points
returns-clause-points c h = same_points c.result-1.given.0 h refl
