use Rattle.wtf8.proofs.lemmas.units.UnitLanes.{any_ends-mask}
use Rattle.wtf8.proofs.units.unit_ends.ends_of_four.Goals as goal

pub returns : goal.returns
returns c = rw (c.requires.one, c.requires.two) (any_ends-mask c.args.bytes c.fits-bytes.0 c.fits-bytes.1)
