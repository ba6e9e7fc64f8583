use Rattle.wtf8.proofs.Common.{false≢true}
use Rattle.wtf8.proofs.lemmas.from_utf16.Transcode.{HasRoomFrom-after}
use Rattle.wtf8.proofs.from_utf16.transcode.append_ascii_blocks.Goals as goal

pub returns-in_err-to-clause-room : goal.returns-in_err-to-clause-room
returns-in_err-to-clause-room g c room = absurd (false≢true (c.in_err-to.ensures.room
    (HasRoomFrom-after c.args.bytes.now c.loop-to.bytes c.loop-to.invariant.0.read c.loop-to.invariant.0.capacity room)))
