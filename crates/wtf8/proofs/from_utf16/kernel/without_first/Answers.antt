use Rattle.wtf8.proofs.lemmas.from_utf16.Padded.{without_first}
use Rattle.wtf8.proofs.from_utf16.kernel.without_first.Goals as goal

pub returns : goal.returns
returns c = rw c.without_first.ensures (without_first c.args.units c.args.count c.requires c.fits-units.0 c.fits-units.1)
