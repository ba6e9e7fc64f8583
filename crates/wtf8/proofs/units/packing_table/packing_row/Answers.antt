use Rattle.wtf8.proofs.lemmas.units.PackedWords.{IsPackingRow-table, packing_rows_below_16}
use Rattle.wtf8.proofs.units.packing_table.packing_row.Goals as goal

pub returns-clause-within : goal.returns-clause-within
returns-clause-within c = packing_rows_below_16 _ c.args.index c.requires

pub returns-clause-packs : goal.returns-clause-packs
returns-clause-packs c = IsPackingRow-table _ c.args.index
