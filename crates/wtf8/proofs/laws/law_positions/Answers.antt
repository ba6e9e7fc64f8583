use Rattle.wtf8.proofs.lemmas.strings.PositionLaws.{ascii_alone, ascii_one_unit, ascii_no_other_unit, start_is_boundary, end_is_boundary}
use Rattle.wtf8.proofs.lemmas.strings.PositionLaws.{none_is_beyond, front_in_whole, whole_in_front, whole_in_back, back_in_whole}
use Rattle.wtf8.proofs.laws.law_positions.Goals as goal

pub returns : goal.returns
returns c = record {
  start = start_is_boundary;
  end = end_is_boundary;
  beyond = none_is_beyond;
  ascii = ascii_alone;
  front_in_whole = front_in_whole;
  whole_in_front = whole_in_front;
  whole_in_back = whole_in_back;
  back_in_whole = back_in_whole;
  unit = ascii_one_unit;
  none = ascii_no_other_unit;
}
