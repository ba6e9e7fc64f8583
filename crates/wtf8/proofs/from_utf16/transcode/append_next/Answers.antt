use Rattle.wtf8.proofs.Common.{sym, subst, HasRoomFrom}
use Rattle.std.proofs.lemmas.Result.{IfOk-weaker}
use Rattle.wtf8.proofs.lemmas.from_utf16.Transcode.{HasRoomFrom-after}
use Rattle.wtf8.proofs.from_utf16.transcode.append_next.Goals.{then-v-from-lt128+else-spare_capacity-lt-TWO_BLOCKS+in_ok-at+else-to-at+else-groups-lt-MIN_GROUPS_FOR_BLOCKS+else-v-to-lt-QUARTER_BLOCK, else-v-from-lt128+else-v-from-lt128-2+else-v-from-lt128-3}
use Rattle.wtf8.proofs.from_utf16.transcode.append_next.Goals as goal

pub returns-then-groups-lt-MIN_GROUPS_FOR_BLOCKS-clause-read : goal.returns-then-groups-lt-MIN_GROUPS_FOR_BLOCKS-clause-read
returns-then-groups-lt-MIN_GROUPS_FOR_BLOCKS-clause-read g c = IfOk-weaker c.append_point-then-groups-lt-MIN_GROUPS_FOR_BLOCKS.result _ _
    (λ to on front read. on front (c.in_ok-at.ensures.read front read)) c.append_point-then-groups-lt-MIN_GROUPS_FOR_BLOCKS.ensures.read

pub returns-then-groups-lt-MIN_GROUPS_FOR_BLOCKS-clause-room : goal.returns-then-groups-lt-MIN_GROUPS_FOR_BLOCKS-clause-room
returns-then-groups-lt-MIN_GROUPS_FOR_BLOCKS-clause-room g c room = c.append_point-then-groups-lt-MIN_GROUPS_FOR_BLOCKS.ensures.room
    (HasRoomFrom-after c.args.bytes.now c.append_ascii_blocks.new.bytes c.in_ok-at.ensures.read c.in_ok-at.ensures.capacity room)

pub returns-clause-room : goal.returns-clause-room
returns-clause-room g c room = c.append_blocks.ensures.room (elim c.if-v-from-lt128.branch [
  | then-v-from-lt128+else-spare_capacity-lt-TWO_BLOCKS+in_ok-at+else-to-at+else-groups-lt-MIN_GROUPS_FOR_BLOCKS+else-v-to-lt-QUARTER_BLOCK w ↦
      subst (λ b. HasRoomFrom b c.args.v.now c.if-v-from-lt128.to.at c.if-v-from-lt128.to.is_utf8) (sym w.bytes-is)
      (subst (λ to. HasRoomFrom w.append_ascii_blocks.new.bytes c.args.v.now to.at to.is_utf8) (sym w.to-is)
      (HasRoomFrom-after c.args.bytes.now w.append_ascii_blocks.new.bytes w.in_ok-at.ensures.read w.in_ok-at.ensures.capacity room))
  | else-v-from-lt128+else-v-from-lt128-2+else-v-from-lt128-3 w ↦
      subst (λ b. HasRoomFrom b c.args.v.now c.if-v-from-lt128.to.at c.if-v-from-lt128.to.is_utf8) (sym w.bytes-is)
      (subst (λ to. HasRoomFrom c.args.bytes.now c.args.v.now to.at to.is_utf8) (sym w.to-is) room)
])
