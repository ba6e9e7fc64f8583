use Rattle.wtf8.proofs.Common.{◌+◌, ◌-◌, ◌≤◌, ◌&&◌, length, length-drop, arith, subst, sym, take, take_all, drop, IsKnownForm, IsReadTo, append_assoc}
use Rattle.wtf8.specs.private.PackedUnits.{packed_units, tagged_units}
use Rattle.wtf8.proofs.lemmas.from_utf16.PackedUnits.{packed_units-read, last_units-read}
use Rattle.wtf8.proofs.from_utf16.kernel.write_blocks.Goals as goal

pub loop-preserved : goal.loop-preserved
loop-preserved c =
    let before = c.loop.invariant in
    let own = c.write_any_block-written.ensures in
    let to = c.loop.to in
    let written = c.write_any_block-written.result in
    let within : to.at + 16 ≤ length c.args.v.now = omega (arith, before.units, before.last, c.loop-test.true) in
    record {
      units = before.units;
      room = omega (arith, before.room, c.write_any_block-written.auto.scratch);
      order = omega (arith, before.order, own.taken);
      last = omega (arith, before.last, own.taken);
      within = omega (arith, before.within, own.within);
      read = λ w front read. packed_units-read w (take c.loop.end
          c.loop.out) written.units (before.read w front read) within c.type_inv.v own.taken own.scalar own.bytes;
    }

pub returns-then-end-out-clause-read : goal.returns-then-end-out-clause-read
returns-then-end-out-clause-read c w front read =
    let to = c.loop.to in
    let v = c.args.v.now in
    let last = c.write_last_block-end in
    let kept = take c.loop.end c.loop.out in
    let part = packed_units 0 (tagged_units 0 (drop to.at v) 0) in
    let own = subst (λ u. IsKnownForm part u last.result.1) (sym (take_all (length v - to.at) (drop to.at v) (omega (arith, length-drop to.at v))))
    last.ensures.form in
    let more = last_units-read (c.loop.invariant.read w front read) (omega (arith, c.if-left-ge-QUARTER_BLOCK.true)) own in
    rw last.ensures.bytes (subst (λ b. IsReadTo b front v (length v) (to.is_utf8 && last.result.1)) (append_assoc w kept _) more)
