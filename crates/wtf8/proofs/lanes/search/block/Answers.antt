use Rattle.wtf8.proofs.lemmas.lanes.SurrogateLanes.{first_begins}
use Rattle.wtf8.proofs.lanes.search.block.Goals as goal

pub returns : goal.returns
returns c = first_begins c.args.firsts c.args.seconds c.fits-firsts.0 c.fits-seconds.0 c.first_set_lane.result c.first_set_lane.ensures
