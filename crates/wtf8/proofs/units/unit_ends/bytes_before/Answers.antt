use Rattle.wtf8.proofs.lemmas.units.UnitLanes.{shuffled-one, shuffled-two}
use Rattle.wtf8.proofs.units.unit_ends.bytes_before.Goals as goal

pub returns-clause-one : goal.returns-clause-one
returns-clause-one c = shuffled-one c.args.bytes c.fits-bytes.0

pub returns-clause-two : goal.returns-clause-two
returns-clause-two c = shuffled-two c.args.bytes c.fits-bytes.0
