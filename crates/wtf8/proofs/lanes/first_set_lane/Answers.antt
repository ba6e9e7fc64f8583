use Rattle.wtf8.proofs.lemmas.lanes.Masks.{none_set}
use Rattle.wtf8.proofs.lanes.first_set_lane.Goals as goal

pub returns-then-bits-eq0 : goal.returns-then-bits-eq0
returns-then-bits-eq0 c n lanes few long same = none_set c.args.bits n lanes few long same c.if-bits-eq0.true
