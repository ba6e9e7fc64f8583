use Rattle.wtf8.proofs.lemmas.units.FullBlocks.{words-threes}
use Rattle.wtf8.proofs.units.blocks.read_eight_threes.Goals as goal

pub returns-clause-firsts : goal.returns-clause-firsts
returns-clause-firsts c = (words-threes c.args.front c.args.back c.fits-front.0 c.fits-back.0 c.fits-front.1 c.fits-back.1).0

pub returns-clause-units : goal.returns-clause-units
returns-clause-units c = (words-threes c.args.front c.args.back c.fits-front.0 c.fits-back.0 c.fits-front.1 c.fits-back.1).1
