use Rattle.wtf8.proofs.Common.{◌<◌, ◌∙◌, ap, arith, get_or, length, nat_cmp, sym}
use Rattle.std.proofs.lemmas.Cmp.{nat_cmp_total, tied_itself}
use Rattle.wtf8.proofs.lemmas.lanes.ListOrder.{cmp_less, cmp_greater, order_at, order_of_lengths}
use Rattle.wtf8.proofs.lanes.memcmp.cmp_at_mismatch.Goals as goal

pub returns-in-Some : goal.returns-in-Some
returns-in-Some c =
    sym (cmp_less _ _ c.if-own-at.true) ∙ order_at c.args.own.now c.args.others.now c.in-Some.at (rw c.in-Some.is at c.requires)

pub returns-in-Some-2 : goal.returns-in-Some-2
returns-in-Some-2 c =
    let first = rw c.in-Some.is at c.requires in
    let above : get_or c.args.others.now c.in-Some.at 0 < get_or c.args.own.now c.in-Some.at 0 = omega (arith, first.0.here) in
    sym (cmp_greater _ _ above) ∙ order_at c.args.own.now c.args.others.now c.in-Some.at first

pub returns-in-None : goal.returns-in-None
returns-in-None c =
    sym (cmp_greater _ _ c.if-own-others.true) ∙ order_of_lengths c.args.own.now c.args.others.now (rw c.in-None.is at c.requires)

pub returns-in-None-2 : goal.returns-in-None-2
returns-in-None-2 c =
    let same = sym (tied_itself nat_cmp_total (length c.args.own.now)) ∙ ap (nat_cmp (length c.args.own.now)) c.if-own-others-2.true in
    same ∙ order_of_lengths c.args.own.now c.args.others.now (rw c.in-None.is at c.requires)

pub returns-in-None-3 : goal.returns-in-None-3
returns-in-None-3 c =
    let below : length c.args.own.now < length c.args.others.now = omega (arith, c.if-own-others.false, c.if-own-others-2.false) in
    sym (cmp_less _ _ below) ∙ order_of_lengths c.args.own.now c.args.others.now (rw c.in-None.is at c.requires)
