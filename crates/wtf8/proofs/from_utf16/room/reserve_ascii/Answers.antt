use Rattle.wtf8.proofs.Common.{[], arith}
use Rattle.wtf8.proofs.lemmas.from_utf16.EncodedLen.{HasRoomAfter-nothing, rest_form-fits, rest_form-longer}
use Rattle.wtf8.proofs.from_utf16.room.reserve_ascii.Goals as goal

pub returns-clause-room : goal.returns-clause-room
returns-clause-room g c is_utf8 room = c.reserve.ensures.succeeds (omega (
  arith,
  rest_form-fits c.args.bytes.now [] c.type_inv.v c.requires.within (HasRoomAfter-nothing c.args.bytes.now room),
  rest_form-longer c.args.v.now c.args.at c.type_inv.v,
))
