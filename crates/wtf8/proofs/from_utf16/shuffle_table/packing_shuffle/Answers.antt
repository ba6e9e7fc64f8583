use Rattle.wtf8.proofs.lemmas.from_utf16.ShuffleTable.{IsPackingShuffle-table, table_below_16}
use Rattle.wtf8.proofs.from_utf16.shuffle_table.packing_shuffle.Goals as goal

pub returns-clause-within : goal.returns-clause-within
returns-clause-within c = table_below_16 _ c.args.index c.requires

pub returns-clause-packs : goal.returns-clause-packs
returns-clause-packs c = IsPackingShuffle-table _ c.args.index
