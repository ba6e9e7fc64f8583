use Rattle.wtf8.proofs.lemmas.units.UnitLanes.{short_ends-mask}
use Rattle.wtf8.proofs.units.unit_ends.end_positions.Goals as goal

pub returns : goal.returns
returns c short = rw c.bytes_before.ensures.one (short_ends-mask c.args.bytes c.fits-bytes.0 c.fits-bytes.1 short)
