use Rattle.wtf8.proofs.lemmas.units.UnitMarks.{equal_counts, marks_stay, marks_stay_in_front, mark_divides_none, same_mark}
use Rattle.wtf8.proofs.lemmas.units.UnitMarks.{marks_in_order, mark_found_again}
use Rattle.wtf8.proofs.laws.law_marks.Goals as goal

pub returns : goal.returns
returns c = record {
  equal = equal_counts;
  kept = marks_stay;
  cut = marks_stay_in_front;
  no_pair = mark_divides_none;
  same = same_mark;
  order = marks_in_order;
  found = mark_found_again;
}
