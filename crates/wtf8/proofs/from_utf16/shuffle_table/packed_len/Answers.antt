use Rattle.wtf8.proofs.lemmas.from_utf16.ShuffleTable.{IsPackedLen-count_ones}
use Rattle.wtf8.proofs.from_utf16.shuffle_table.packed_len.Goals as goal

pub returns-clause-len : goal.returns-clause-len
returns-clause-len c = IsPackedLen-count_ones c.args.index
