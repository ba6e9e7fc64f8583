use Rattle.wtf8.proofs.Common.{◌++◌, false≢true, option_to_list, view_units}
use Rattle.wtf8.proofs.lemmas.strings.PushedUnits.{room_for_back, room_for_front}
use Rattle.wtf8.proofs.buffers.buf.Wtf8Buf.push_parts.Goals as goal

pub returns-in_err-push_half-clause-room : goal.returns-in_err-push_half-clause-room
returns-in_err-push_half-clause-room g c room =
    let slice = c.args.slice in
    absurd (false≢true (c.in_err-push_half.ensures.room
    (room_for_front c.args.self.now (option_to_list slice.trail) (view_units slice.whole ++ option_to_list slice.lead) room)))

pub returns-in_err-push_wtf8-clause-room : goal.returns-in_err-push_wtf8-clause-room
returns-in_err-push_wtf8-clause-room g c room =
    let slice = c.args.slice in
    let back = view_units slice.whole ++ option_to_list slice.lead in
    let first = c.in_ok-push_half.ensures in
    absurd (false≢true (c.in_err-push_wtf8.ensures.room (room_for_front c.push_half.new.self (view_units slice.whole)
    (option_to_list slice.lead)
    (room_for_back c.args.self.now c.push_half.new.self (option_to_list slice.trail) back first.ok first.capacity room))))

pub returns-clause-room : goal.returns-clause-room
returns-clause-room g c room =
    let slice = c.args.slice in
    let back = view_units slice.whole ++ option_to_list slice.lead in
    let first = c.in_ok-push_half.ensures in
    let whole = c.in_ok-push_wtf8.ensures in
    c.push_half-2.ensures.room (room_for_back c.push_half.new.self c.push_wtf8.new.self (view_units slice.whole) (option_to_list slice.lead)
    whole.ok whole.capacity
    (room_for_back c.args.self.now c.push_half.new.self (option_to_list slice.trail) back first.ok first.capacity room))
