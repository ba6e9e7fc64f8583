use Rattle.wtf8.proofs.lemmas.lanes.Mismatch.{unequal_mask-decides}
use Rattle.wtf8.proofs.lanes.memcmp.eq_block.Goals as goal

pub returns : goal.returns
returns g c = unequal_mask-decides g.row.N c.args.own.now c.args.others.now c.args.at c.requires.lanes.1 c.requires.room.0 c.requires.room.1
