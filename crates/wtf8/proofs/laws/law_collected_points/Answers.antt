use Rattle.wtf8.proofs.lemmas.laws.ViewLaws.{collected_points, collected_front, collected_back}
use Rattle.wtf8.proofs.laws.law_collected_points.Goals as goal

pub returns : goal.returns
returns c = record { all = collected_points; first = collected_front; rest = collected_back }
