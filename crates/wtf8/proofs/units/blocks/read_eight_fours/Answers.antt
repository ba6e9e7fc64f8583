use Rattle.wtf8.proofs.lemmas.units.FullBlocks.{words-fours}
use Rattle.wtf8.proofs.units.blocks.read_eight_fours.Goals as goal

pub returns-clause-firsts : goal.returns-clause-firsts
returns-clause-firsts c = (words-fours c.args.bytes c.fits-bytes.0 c.fits-bytes.1).0

pub returns-clause-units : goal.returns-clause-units
returns-clause-units c = (words-fours c.args.bytes c.fits-bytes.0 c.fits-bytes.1).1
