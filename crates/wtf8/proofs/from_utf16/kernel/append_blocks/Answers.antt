use Rattle.wtf8.proofs.Common.{ℕ, ap, false≢true, arith, length, length-append, length-take-le, take, common_steps}
use Rattle.wtf8.proofs.lemmas.from_utf16.Transcode.{ReadsOn-nil}
use Rattle.wtf8.proofs.from_utf16.kernel.append_blocks.Goals as goal

pub returns-in_err-make_room-clause-room : goal.returns-in_err-make_room-clause-room
returns-in_err-make_room-clause-room g c room =
    let end = c.write_blocks-len in
    let written = take end.result.0 end.new.out in
    let read = ReadsOn-nil c.loop-bytes.bytes.items (end.ensures.read c.loop-bytes.bytes.items) room.0 (c.loop-bytes.invariant.read room.0 room.1) in
    absurd (false≢true (c.in_err-make_room.ensures.room written (length-take-le end.result.0 end.new.out end.ensures.within)
    (room.0, _, read, λ n w form. omega (arith, room.2 n w form, c.loop-bytes.invariant.capacity))))

pub returns-in_err-extend_from_slice-clause-room : goal.returns-in_err-extend_from_slice-clause-room
returns-in_err-extend_from_slice-clause-room g c room =
    let read = ReadsOn-nil c.loop-bytes.bytes.items (c.write_blocks-len.ensures.read c.loop-bytes.bytes.items) room.0 (c.loop-bytes.invariant.read room.0 room.1) in
    let fits = room.2 _ _ read.form.form in
    absurd (false≢true (c.in_err-extend_from_slice.ensures.succeeds (omega (arith, length-append {A = ℕ}, ap length c.make_room.ensures.items))))

pub returns-then-v-read-lt-QUARTER_BLOCK-clause-read : goal.returns-then-v-read-lt-QUARTER_BLOCK-clause-read
returns-then-v-read-lt-QUARTER_BLOCK-clause-read g c front read = rw (c.in_ok-extend_from_slice.ensures.items, c.make_room.ensures.items)
    (ReadsOn-nil c.loop-bytes.bytes.items (c.write_blocks-len.ensures.read c.loop-bytes.bytes.items) front (c.loop-bytes.invariant.read front read))

pub loop-bytes-preserved : goal.loop-bytes-preserved
loop-bytes-preserved g c = record {
  order = omega (arith, c.write_blocks-len.ensures.order, c.loop-bytes.invariant.order);
  within = omega (arith, c.if-v-read-lt-QUARTER_BLOCK.false);
  read = λ front read. rw (c.in_ok-extend_from_slice.ensures.items, c.make_room.ensures.items)
      (ReadsOn-nil c.loop-bytes.bytes.items (c.write_blocks-len.ensures.read c.loop-bytes.bytes.items) front (c.loop-bytes.invariant.read front read));
  begins = grind (arith, common_steps, c.loop-bytes.invariant.begins, c.in_ok-extend_from_slice.ensures.items, c.make_room.ensures.items);
  capacity = omega (arith, c.loop-bytes.invariant.capacity, c.make_room.ensures.capacity, c.in_ok-extend_from_slice.ensures.capacity);
}
