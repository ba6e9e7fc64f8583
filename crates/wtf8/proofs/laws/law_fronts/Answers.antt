use Rattle.wtf8.proofs.lemmas.units.UnitMarks.{same_front, boundaries_in_order, boundary_divides_none, boundary_is_mark}
use Rattle.wtf8.proofs.laws.law_fronts.Goals as goal

pub returns : goal.returns
returns c = record { same = same_front; order = boundaries_in_order; no_pair = boundary_divides_none; mark = boundary_is_mark }
