use Rattle.wtf8.proofs.Common.{refl}
use Rattle.wtf8.proofs.lemmas.codec.Readings.{same_points}
use Rattle.wtf8.proofs.strings.iters.Wtf8CodePoints.new.Goals as goal

pub returns : goal.returns
returns c = same_points c.result-1.given.1.0 c.args.view.well_formed refl
