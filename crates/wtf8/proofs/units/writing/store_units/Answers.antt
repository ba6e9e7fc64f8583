use Rattle.wtf8.proofs.Common.{arith, put_chunk_is}
use Rattle.std.proofs.lemmas.Slice.{drop-put_mid}
use Rattle.wtf8.proofs.lemmas.from_utf16.PackedUnits.{take-written_block}
use Rattle.wtf8.proofs.units.writing.store_units.Goals as goal

pub returns-clause-front : goal.returns-clause-front
returns-clause-front g c n few = grind (arith, put_chunk_is, take-written_block)

pub returns-clause-later : goal.returns-clause-later
returns-clause-later g c n after = grind (arith, put_chunk_is, drop-put_mid)
