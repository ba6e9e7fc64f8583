use Rattle.wtf8.proofs.lemmas.lanes.AsciiFronts.{ascii_ends}
use Rattle.wtf8.proofs.lanes.ascii.is_ascii_overlapping.Goals as goal

pub returns-then-is_ascii_block : goal.returns-then-is_ascii_block
returns-then-is_ascii_block g c t = ascii_ends c.args.bytes.now g.row.N c.requires.all.0 c.requires.all.1
    (c.is_ascii_block.ensures c.if-is_ascii_block.true) (c.is_ascii_block-then-is_ascii_block.ensures t)
