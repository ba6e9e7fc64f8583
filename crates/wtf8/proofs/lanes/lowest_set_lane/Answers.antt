use Rattle.wtf8.proofs.lemmas.lanes.Masks.{lowest_set}
use Rattle.wtf8.proofs.lanes.lowest_set_lane.Goals as goal

pub returns : goal.returns
returns c n lanes few long same = lowest_set c.args.bits n lanes few long same c.requires
