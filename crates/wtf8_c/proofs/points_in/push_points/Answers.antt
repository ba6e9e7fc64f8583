use Rattle.std.proofs.Common.{take, ◌∙◌, arith}
use Rattle.wtf8.specs.Unicode.{units}
use Rattle.wtf8_c.proofs.Pushes.{more_units, next_units, room_for_next, taken_back, three_parts_units}
use Rattle.wtf8_c.proofs.points_in.push_points.Goals as goal

pub returns-in-Err-clause-kept : goal.returns-in-Err-clause-kept
returns-in-Err-clause-kept c =
    taken_back c.args.buf.now c.push_chunk.new.buf c.truncate_units.new.self (units (take c.loop-at.at c.args.points.now)) c.unit_len-old_len.result
    (c.in-Err.ensures.kept.units ∙ c.loop-at.invariant.units) c.loop-at.invariant.old_len c.truncate_units.ensures.units

pub returns-in-Err-clause-room : goal.returns-in-Err-clause-room
returns-in-Err-clause-room c = λ has.
    c.in-Err.ensures.room (room_for_next c.args.buf.now c.loop-at.buf (units c.args.points.now) (units (take c.loop-at.at c.args.points.now)) _ _
    c.loop-at.invariant.units (three_parts_units c.loop-at.at c.min-n.result c.args.points.now) c.loop-at.invariant.capacity has)

pub loop-at-preserved : goal.loop-at-preserved
loop-at-preserved c = record {
  within = omega (arith, c.min-n.ensures, c.loop-at.invariant.within);
  units = c.in_default.ensures.ok ∙ more_units c.args.buf.now.units c.loop-at.buf.units (units (take c.loop-at.at c.args.points.now)) _ _
      c.loop-at.invariant.units (next_units c.loop-at.at c.min-n.result c.args.points.now);
  capacity = omega (arith, c.loop-at.invariant.capacity, c.push_chunk.ensures.capacity);
  old_len = c.loop-at.invariant.old_len;
}
