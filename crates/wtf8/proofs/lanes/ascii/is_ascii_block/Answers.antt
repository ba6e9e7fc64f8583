use Rattle.wtf8.proofs.Common.{w8}
use Rattle.wtf8.proofs.lemmas.lanes.AsciiFronts.{ascii_if_none}
use Rattle.wtf8.proofs.lanes.ascii.is_ascii_block.Goals as goal

pub returns : goal.returns
returns g c = ascii_if_none w8 g.row.N c.args.bytes c.requires c.fits-bytes.0
