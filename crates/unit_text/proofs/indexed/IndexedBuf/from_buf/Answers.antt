use Rattle.std.proofs.Common.{rules}
use Rattle.unit_text.proofs.indexed.IndexedBuf.from_buf.Goals as goal

pub counted-requires : goal.counted-requires
counted-requires c = search rules
