use Rattle.wtf8.proofs.Common.{◌≡◌, ◌+◌, ◌≤◌, ap, arith, length, length-append, subst, sym, take_all, units, BeginsWithUnits}
use Rattle.wtf8.proofs.units.writing.decode_full_blocks.Goals as goal

pub write_front-rest-requires : goal.write_front-rest-requires
write_front-rest-requires g c =
    let view = c.loop-block.rest.view in
    let block = c.in-Some.block in
    let long : length block ≡ g.row.N = c.in-Some.ensures.0 in
    let begins : BeginsWithUnits view.bytes.now block g.row.BYTES = c.in-Some.ensures.1 in
    let first = begins view.well_formed in
    let done = c.loop-block.invariant.written in
    let room : c.loop-block.rest.at + g.row.N ≤ length c.loop-block.units =
    omega (arith, done.same_total, done.len, c.requires.room, ap length first.1, length-append block (units first.0.points), long) in
    let within : g.row.BYTES ≤ length view.bytes.now = omega (arith, c.loop-block-test.true, c.len.ensures.bytes, c.requires.lanes.2, c.requires.least.0) in
    let all = take_all g.row.N block (omega (arith, long)) in (
      omega (arith, c.requires.lanes),
      (
        c.requires.lanes.0,
        (room, ((omega arith, within), subst (λ u. BeginsWithUnits view.bytes.now u g.row.BYTES) (sym all) begins)),
      ),
    )
