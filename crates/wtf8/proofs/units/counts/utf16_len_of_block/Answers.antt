use Rattle.wtf8.proofs.Common.{◌∙◌, ◌+◌, ap, arith, fold_l}
use Rattle.wtf8.proofs.lemmas.lanes.UnitCounts.{sum_fits_byte, fold_l-utf16_len}
use Rattle.wtf8.proofs.units.counts.utf16_len_of_block.Goals as goal

pub overflow_add-utf16_len_of_each : goal.overflow_add-utf16_len_of_each
overflow_add-utf16_len_of_each g c = rw c.utf16_len_of_each.ensures (sum_fits_byte c.args.bytes (omega (arith, c.requires, c.fits-bytes.0)))

pub returns : goal.returns
returns g c = c.from.ensures ∙ (ap (fold_l (λ s x. s + x) 0) c.utf16_len_of_each.ensures ∙ fold_l-utf16_len c.args.bytes)
