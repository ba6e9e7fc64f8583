use Rattle.wtf8.proofs.Common.{arith, Some}
use Rattle.wtf8.proofs.lemmas.lanes.Mismatch.{first_unequal_lane, unequal_mask-nonzero}
use Rattle.wtf8.proofs.lanes.memcmp.mismatch_in_block.Goals as goal

pub lowest_set_lane-requires : goal.lowest_set_lane-requires
lowest_set_lane-requires g c = unequal_mask-nonzero g.row.N c.args.own.now c.args.others.now c.args.at c.requires.lanes.1 c.requires.room.0
    c.requires.room.1 c.if-eq_block.ensures

pub overflow_add-result : goal.overflow_add-result
overflow_add-result g c =
    let first = first_unequal_lane g.row.N c.args.own.now c.args.others.now c.args.at c.requires.lanes.1 c.requires.room.0 c.requires.room.1
    (Some c.lowest_set_lane.result) c.lowest_set_lane.ensures in
    omega (arith, first.1, c.requires.room.0)

pub returns : goal.returns
returns g c = first_unequal_lane g.row.N c.args.own.now c.args.others.now c.args.at c.requires.lanes.1 c.requires.room.0 c.requires.room.1
    (Some c.lowest_set_lane.result) c.lowest_set_lane.ensures
