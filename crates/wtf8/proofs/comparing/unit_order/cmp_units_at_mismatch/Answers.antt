use Rattle.wtf8.proofs.Common.{◌∙◌, rules}
use Rattle.wtf8.proofs.lemmas.comparing.Order.{CommonFront, iff_from_equal, common_front_at_mismatch, bytes_order, rests_order}
use Rattle.wtf8.proofs.lemmas.strings.Positions.{boundary_of}
use Rattle.wtf8.proofs.comparing.unit_order.cmp_units_at_mismatch.Goals.{Else-supplementary_begins}
use Rattle.wtf8.proofs.comparing.unit_order.cmp_units_at_mismatch.Goals as goal

common_front : (c : Else-supplementary_begins)
    → CommonFront c.args.own.well_formed.points c.args.others.well_formed.points c.mismatch-at.result
common_front c = search (rules, common_front_at_mismatch)

pub returns-then-supplementary_begins : goal.returns-then-supplementary_begins
returns-then-supplementary_begins c =
    let both = iff_from_equal _ _ c.supplementary_begins.ensures c.supplementary_begins-2.ensures c.if-supplementary_begins.true in
    let bytes = bytes_order c.args.own.well_formed c.args.others.well_formed _ c.mismatch-at.ensures both in
    c.cmp.ensures ∙ rw (c.byte_at.ensures, c.byte_at-then-supplementary_begins.ensures) bytes

pub slice_from-requires : goal.slice_from-requires
slice_from-requires c =
    let p = common_front (goal.at.slice_from-requires c).Else-supplementary_begins in
    boundary_of c.args.own.well_formed p.front p.own _ p.own_joined p.front_len

pub slice_from-requires-2 : goal.slice_from-requires-2
slice_from-requires-2 c =
    let p = common_front (goal.at.slice_from-requires-2 c).Else-supplementary_begins in
    boundary_of c.args.others.well_formed p.front p.others _ p.others_joined p.front_len

pub returns : goal.returns
returns c =
    let p = common_front (goal.at.returns c).Else-supplementary_begins in
    c.cmp_unitwise.ensures ∙ rests_order c.args.own.well_formed c.args.others.well_formed _ p c.slice_from.result.well_formed
    c.slice_from-2.result.well_formed c.slice_from.ensures.bytes c.slice_from-2.ensures.bytes
