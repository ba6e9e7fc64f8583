use Rattle.wtf8.proofs.lemmas.laws.ViewLaws.{drained_points, taken_points, skipped_points}
use Rattle.wtf8.proofs.laws.law_drained_points.Goals as goal

pub returns : goal.returns
returns c = record { all = drained_points; first = taken_points; rest = skipped_points }
