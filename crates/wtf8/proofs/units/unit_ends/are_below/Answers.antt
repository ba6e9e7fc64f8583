use Rattle.wtf8.proofs.lemmas.units.UnitLanes.{below_if_no_more}
use Rattle.wtf8.proofs.units.unit_ends.are_below.Goals as goal

pub returns : goal.returns
returns c t = below_if_no_more c.args.limit c.args.bytes c.fits-bytes.0 c.fits-bytes.1 c.requires c.ranges.limit.fits t
