use Rattle.std.proofs.Common.{rules}
use Rattle.unit_text.proofs.indexed.IndexedBuf.push_wtf8.Goals as goal

pub push_counted-requires : goal.push_counted-requires
push_counted-requires c = search rules
