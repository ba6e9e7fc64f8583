use Rattle.wtf8.proofs.Common.{ap, arith, length, ◌&&◌, ◌++◌, encoding, number, false≢true, IsReadTo, List, [], ℕ, refl}
use Rattle.wtf8.proofs.lemmas.from_utf16.EncodedLen.{HasRoomAfter-nothing}
use Rattle.wtf8.proofs.lemmas.from_utf16.Decoding.{IsReadTo-point}
use Rattle.wtf8.proofs.from_utf16.transcode.append_point.Goals.{After-append}
use Rattle.wtf8.proofs.from_utf16.transcode.append_point.Goals as goal

pub returns-in_err-make_room-clause-room : goal.returns-in_err-make_room-clause-room
returns-in_err-make_room-clause-room g c room = absurd (false≢true (c.in_err-make_room.ensures.room [] refl (HasRoomAfter-nothing c.args.bytes.now room)))

-- the first code point is encoded, if its encoding is appended
point_read : (g : _) (c : After-append g) (w front : List ℕ) → IsReadTo w front c.args.v.now c.args.from.at c.args.from.is_utf8
    → IsReadTo (w ++ encoding (number c.read_point-at.result.0)) front c.args.v.now c.read_point-at.result.1
    (c.args.from.is_utf8 && c.read_point-at.result.2)
point_read g c w front read =
    let first = c.read_point-at.ensures in
    IsReadTo-point read (omega (arith, first.order))
    (record { within = first.within; divides_no_pair = first.divides_no_pair; reads = first.reads }) first.scalar

pub returns-in_err-append-clause-room : goal.returns-in_err-append-clause-room
returns-in_err-append-clause-room g c room =
    let read = point_read g (goal.at.returns-in_err-append-clause-room g c).After-append _ room.0 room.1 in
    absurd (false≢true (c.in_err-append.ensures.room
    (omega (arith, room.2 _ _ read.form.form, ap (λ b. length (b ++ encoding (number c.read_point-at.result.0))) c.make_room.ensures.items))))

pub returns-clause-read : goal.returns-clause-read
returns-clause-read g c front read = rw (c.in_ok-append.ensures.ok, c.make_room.ensures.items)
    (point_read g (goal.at.returns-clause-read g c).After-append _ front read)
