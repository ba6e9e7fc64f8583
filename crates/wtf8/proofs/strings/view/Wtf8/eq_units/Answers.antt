use Rattle.std.proofs.Common.{Decides}
use Rattle.std.proofs.lemmas.Map.Text.{is_eq-slice_cmp}
use Rattle.std.proofs.lemmas.Slice.Eq.{bytes_eq-Decides}
use Rattle.std.specs.Ordering.{is_eq}
use Rattle.wtf8.proofs.Common.{arith}
use Rattle.wtf8.proofs.strings.view.Wtf8.eq_units.Goals as goal

pub returns : goal.returns
returns c = grind (arith, is_eq, is_eq-slice_cmp, Decides, bytes_eq-Decides)
