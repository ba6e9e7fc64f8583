use Rattle.std.proofs.Common.{take, ◌∙◌, arith}
use Rattle.wtf8_c.proofs.Pushes.{more_units, next_taken, room_for_next, taken_back, three_parts}
use Rattle.wtf8_c.proofs.latin1.push_bytes.Goals as goal

pub returns-in-Err-clause-kept : goal.returns-in-Err-clause-kept
returns-in-Err-clause-kept c =
    taken_back c.args.buf.now c.push_chunk-in-loop-at.new.buf c.truncate_units.new.self (take c.loop-at.at c.args.bytes.now) c.unit_len-old_len.result
    (c.in-Err.ensures.kept.units ∙ c.loop-at.invariant.units) c.loop-at.invariant.old_len c.truncate_units.ensures.units

pub returns-in-Err-clause-room : goal.returns-in-Err-clause-room
returns-in-Err-clause-room c = λ has.
    c.in-Err.ensures.room (room_for_next c.args.buf.now c.loop-at.buf c.args.bytes.now (take c.loop-at.at c.args.bytes.now) _ _
    c.loop-at.invariant.units (three_parts c.loop-at.at c.min-n.result c.args.bytes.now) c.loop-at.invariant.capacity has)

pub loop-at-preserved : goal.loop-at-preserved
loop-at-preserved c = record {
  within = omega (arith, c.min-n.ensures, c.loop-at.invariant.within);
  units = c.in_default.ensures.ok ∙ more_units c.args.buf.now.units c.loop-at.buf.units (take c.loop-at.at c.args.bytes.now) _ _
      c.loop-at.invariant.units (next_taken c.loop-at.at c.min-n.result c.args.bytes.now);
  capacity = omega (arith, c.loop-at.invariant.capacity, c.push_chunk-in-loop-at.ensures.capacity);
  old_len = c.loop-at.invariant.old_len;
}
