use Rattle.wtf8.proofs.Common.{arith}
use Rattle.wtf8.proofs.lemmas.lanes.AsciiFronts.{ascii_in_block}
use Rattle.wtf8.proofs.lemmas.strings.Positions.{sum_utf16_len-ascii}
use Rattle.wtf8.proofs.units.positions.skip_ascii.Goals as goal

pub returns : goal.returns
returns g c = grind (arith, ascii_in_block, sum_utf16_len-ascii)
