use Rattle.wtf8.proofs.lemmas.lanes.Padding.{moved_lanes}
use Rattle.wtf8.proofs.lanes.padding.after_byte.Goals as goal

pub returns : goal.returns
returns c = moved_lanes c.args.byte c.args.lanes c.fits-lanes.0
