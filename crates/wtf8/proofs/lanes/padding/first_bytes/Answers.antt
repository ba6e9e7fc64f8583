use Rattle.wtf8.proofs.lemmas.lanes.Padding.{stored}
use Rattle.wtf8.proofs.lanes.padding.first_bytes.Goals as goal

pub returns : goal.returns
returns g c = stored g.row.N c.args.bytes.now c.requires.0 c.requires.1
