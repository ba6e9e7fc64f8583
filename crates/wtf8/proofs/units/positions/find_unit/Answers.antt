use Rattle.wtf8.proofs.Common.{arith, sum_by_more}
use Rattle.wtf8.proofs.lemmas.lanes.UnitCounts.{utf16_len-ascii, utf16_len-continuation}
use Rattle.wtf8.proofs.units.positions.find_unit.Goals as goal

pub returns-then-units-unit : goal.returns-then-units-unit
returns-then-units-unit c = grind (arith, sum_by_more, utf16_len-ascii)

pub loop-position-preserved : goal.loop-position-preserved
loop-position-preserved c = grind (arith, sum_by_more, utf16_len-ascii, utf16_len-continuation)
