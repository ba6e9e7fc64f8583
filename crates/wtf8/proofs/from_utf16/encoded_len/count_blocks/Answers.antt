use Rattle.wtf8.proofs.Common.{◌≡◌, ◌+◌, ◌-◌, ◌≤◌, ◌∙◌, ap, arith, drop, drop-drop, fold-sum, length, length-chunk, length-replicate, length-zip2}
use Rattle.wtf8.proofs.Common.{sum-zip2, sum_fits, sum_l, sym, take, w16, zip2}
use Rattle.wtf8.specs.private.EncodedLengths.{each_more, more_bytes}
use Rattle.wtf8.proofs.lemmas.from_utf16.EncodedLen.{each_more-block, IsCounted-on, lanes_take_more, sum-most, sum-none, sum-take_add, sum-zeros}
use Rattle.wtf8.proofs.from_utf16.encoded_len.count_blocks.Goals as goal

pub loop-at-init : goal.loop-at-init
loop-at-init g c = grind (arith, length-replicate, sum-zeros, sum-none)

pub overflow_add-lanes : goal.overflow_add-lanes
overflow_add-lanes g c = grind (arith, lanes_take_more, sum-most)

pub loop-at-preserved : goal.loop-at-preserved
loop-at-preserved g c =
    let i = c.loop-at.invariant in
    let u = c.args.units.now in
    let at = c.loop-at.at in
    let from = c.args.from.at in
    let n = g.row.N in
    let all = each_more u in
    let block = take n (drop at u) in
    let next = take n (drop (at + 1) u) in
    let within : at + n + 1 ≤ length u = omega (arith, c.loop-at-test.true, c.min-end.ensures, c.requires.left) in
    let long : length block ≡ n = length-chunk at n u (omega (arith, within)) in
    let more : length (zip2 more_bytes block next) ≡ n =
    length-zip2 more_bytes block next (long ∙ sym (length-chunk (at + 1) n u (omega (arith, within)))) ∙ long in
    let same : take n (drop at all) ≡ zip2 more_bytes block next =
    each_more-block at n u (omega (arith, within)) ∙ ap (λ v. zip2 more_bytes block (take n v)) (drop-drop 1 at u) in
    let sum : from + (at - from) ≡ at = omega (arith, i.order) in
    let count : at + n - from ≡ (at - from) + n = omega (arith, i.order) in
    let rest : take n (drop (at - from) (drop from all)) ≡ take n (drop at all) =
    ap (take n) (drop-drop (at - from) from all ∙ ap (λ k. drop k all) sum) in
    rw c.more_bytes_of_each-lanes.ensures (record {
      order = omega (arith, i.order);
      within = omega (arith, c.loop-at-test.true);
      lanes = length-zip2 (λ a b. a + b) c.loop-at.lanes (zip2 more_bytes block next) (i.lanes ∙ sym more) ∙ i.lanes;
      sum = omega (arith, sum-zip2, ap sum_l same, ap sum_l rest, sum-take_add, ap (λ k. sum_l (take k (drop from all))) count);
    })

pub overflow_add-result : goal.overflow_add-result
overflow_add-result g c = record {
  fits = omega (arith, sum-most c.args.from.at 0 c.args.units.now);
}

pub overflow_add-lanes-2 : goal.overflow_add-lanes-2
overflow_add-lanes-2 g c = sum_fits w16 0 c.loop-at.lanes (omega (arith, sum-most))

pub overflow_add-result-2 : goal.overflow_add-result-2
overflow_add-result-2 g c = record {
  fits = omega (
    arith,
    sum-most c.args.from.at 0 c.args.units.now,
    fold-sum 0 c.loop-at.lanes,
    sum-most (c.loop-at.at - c.args.from.at) c.args.from.at c.args.units.now,
  );
}

pub returns-clause-counted : goal.returns-clause-counted
returns-clause-counted g c = IsCounted-on c.requires.counted c.loop-at.invariant.order
    (omega (arith, c.loop-at.invariant.within, c.min-end.ensures, c.requires.left))
    (omega (arith, c.from.ensures, fold-sum 0 c.loop-at.lanes, c.loop-at.invariant.sum))
