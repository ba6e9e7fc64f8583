use Rattle.wtf8.proofs.Common.{[], ◌++◌, arith, false≢true, refl, subst, take_all, IsKnownForm}
use Rattle.std.proofs.lemmas.Result.{IfOk-weaker}
use Rattle.wtf8.proofs.lemmas.from_utf16.EncodedLen.{HasRoomAfter-nothing}
use Rattle.wtf8.proofs.lemmas.from_utf16.Transcode.{HasRoomFrom-after}
use Rattle.wtf8.proofs.from_utf16.transcode.append_utf16.Goals as goal

pub returns-in_err-reserve_ascii-clause-room : goal.returns-in_err-reserve_ascii-clause-room
returns-in_err-reserve_ascii-clause-room g c room = absurd (false≢true (c.in_err-reserve_ascii.ensures.room c.args.from.is_utf8 room))

pub returns-in_err-read-clause-room : goal.returns-in_err-read-clause-room
returns-in_err-read-clause-room g c room = absurd (false≢true (c.in_err-read.ensures.room
    (HasRoomFrom-after c.args.bytes.now c.loop-read.bytes c.loop-read.invariant.read c.loop-read.invariant.capacity room)))

pub returns-in_err-read-2-clause-room : goal.returns-in_err-read-2-clause-room
returns-in_err-read-2-clause-room g c room = absurd (false≢true (c.in_err-read-2.ensures.room
    (HasRoomFrom-after c.args.bytes.now c.loop-read-2.bytes c.loop-read-2.invariant.read c.loop-read-2.invariant.capacity room)))

pub returns-then-read-v-clause-ok : goal.returns-then-read-v-clause-ok
returns-then-read-v-clause-ok g c front read =
    let end = c.loop-read-2.read in
    subst (λ u. IsKnownForm c.loop-read-2.bytes.items (front ++ u) end.is_utf8)
    (take_all end.at c.args.v.now (omega (arith, c.if-read-v.true))) (c.loop-read-2.invariant.read front read).form

pub returns-in_err-make_room-clause-room : goal.returns-in_err-make_room-clause-room
returns-in_err-make_room-clause-room g c room = absurd (false≢true (c.in_err-make_room.ensures.room [] refl (HasRoomAfter-nothing c.loop-read-2.bytes
    (HasRoomFrom-after c.args.bytes.now c.loop-read-2.bytes c.loop-read-2.invariant.read c.loop-read-2.invariant.capacity room))))

pub returns-clause-ok : goal.returns-clause-ok
returns-clause-ok g c = IfOk-weaker c.append_rest.result _ _ (λ known on front read. on front (rw c.make_room.ensures.items
    (c.loop-read-2.invariant.read front read))) c.append_rest.ensures.ok

pub returns-clause-room : goal.returns-clause-room
returns-clause-room g c room = c.append_rest.ensures.room
    (HasRoomFrom-after c.loop-read-2.bytes c.make_room.new.bytes (λ front read. rw c.make_room.ensures.items read) c.make_room.ensures.capacity
    (HasRoomFrom-after c.args.bytes.now c.loop-read-2.bytes c.loop-read-2.invariant.read c.loop-read-2.invariant.capacity room))
