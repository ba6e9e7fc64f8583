use Rattle.wtf8.proofs.lemmas.strings.PositionLaws.{beginning_no_longer, both_no_longer}
use Rattle.wtf8.proofs.lemmas.strings.StringLaws.{room_left, what_fits}
use Rattle.wtf8.proofs.laws.law_room.Goals as goal

pub returns : goal.returns
returns c = record { beginning = beginning_no_longer; both = both_no_longer; found = room_left; fits = what_fits }
