use Rattle.std.proofs.Common.{rules}
use Rattle.unit_text.proofs.comparisons.IndexedBufHash.hash.Goals as goal

pub returns : goal.returns
returns c = search rules
