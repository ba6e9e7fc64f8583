use Rattle.wtf8.proofs.Common.{◌≡◌, ℕ, ◌+◌, ◌*◌, ◌≤◌, List, map, length, Fits, w8, w16, ap, sym, ◌∙◌, subst, arith, length-map, map-id, Each1-weaker, length-chunk}
use Rattle.wtf8.proofs.Common.{length-zip2, fold-sum, sum_utf16_len, utf16_len, chunk, zip2, Each1, Each2, fold_l, sum_l}
use lib.Lanes.{Steps}
use Rattle.wtf8.proofs.lemmas.lanes.UnitCounts.{lanes_fit_more, lanes_grow, sums_grow, sum_fits_two_bytes}
use Rattle.wtf8.proofs.lemmas.strings.Positions.{sum_utf16_len-chunk_add}
use Rattle.wtf8.proofs.units.counts.utf16_len_of_blocks.Goals as goal

pub overflow_add-lanes : goal.overflow_add-lanes
overflow_add-lanes c =
    let lanes = c.loop-block.lanes in
    subst (Each2 (λ a b. Fits w8 (a + b)) lanes) (sym c.utf16_len_of_each-lanes.ensures)
    (lanes_fit_more (c.loop-block.block * 2) lanes (chunk (c.args.position + c.loop-block.block * 64) 64 c.args.bytes.now)
    (omega (arith, c.loop-block-test.true)) c.loop-block.invariant.2)

pub loop-block-preserved : goal.loop-block-preserved
loop-block-preserved c =
    let w = c.args.bytes.now in
    let done = c.loop-block.block * 64 in
    let lanes = c.loop-block.lanes in
    let xs = chunk (c.args.position + done) 64 w in
    let long : length xs ≡ 64 = length-chunk (c.args.position + done) 64 w (omega (arith, c.requires, c.loop-block-test.true)) in
    let same = c.loop-block.invariant.1 ∙ sym long in
    let more = sum_utf16_len-chunk_add w c.args.position done 64 ((c.loop-block.block + 1) * 64) (omega arith) in
    subst (λ v. (sum_l (zip2 (λ a b. a + b) lanes v) ≡ sum_utf16_len (chunk c.args.position ((c.loop-block.block + 1) * 64) w))
    × (length (zip2 (λ a b. a + b) lanes v) ≡ 64) × Each1 (λ a. a ≤ (c.loop-block.block + 1) * 2) (zip2 (λ a b. a + b) lanes v))
    (sym c.utf16_len_of_each-lanes.ensures) (
      omega (arith, sums_grow lanes xs same, c.loop-block.invariant.0, more),
      length-zip2 (λ a b. a + b) lanes (map utf16_len xs) (same ∙ sym (length-map xs utf16_len)) ∙ c.loop-block.invariant.1,
      subst (λ n. Each1 (λ a. a ≤ n) (zip2 (λ a b. a + b) lanes (map utf16_len xs))) (omega arith)
          (lanes_grow (c.loop-block.block * 2) lanes xs c.loop-block.invariant.2),
    )

at_most_sixteen : (n : ℕ) (xs : List ℕ) → n ≤ 8 → Each1 (λ a. a ≤ n * 2) xs → Each1 (λ a. a ≤ 16) xs
at_most_sixteen n xs h = Each1-weaker (λ a. a ≤ n * 2) (λ a. a ≤ 16) (λ a l. omega (arith, h, l)) xs

pub overflow_cast-lanes : goal.overflow_cast-lanes
overflow_cast-lanes c = grind (arith, Each1-weaker, at_most_sixteen, c.loop-block.invariant.2)

pub overflow_add-lanes-2 : goal.overflow_add-lanes-2
overflow_add-lanes-2 c =
    let lanes = c.loop-block.lanes in
    let each = at_most_sixteen c.loop-block.block lanes (omega (arith, c.loop-block.auto.block-end)) c.loop-block.invariant.2 in
    subst (Steps (λ s x. Fits w16 (s + x)) (λ s x. s + x) 0) (sym (map-id lanes)) (sum_fits_two_bytes lanes c.loop-block.invariant.1 each)

pub returns : goal.returns
returns c =
    let lanes = c.loop-block.lanes in
    let all : c.loop-block.block * 64 ≡ 512 = omega (arith, c.loop-block.auto.block-end, c.loop-block-test.false) in
    let whole = ap (λ k. sum_utf16_len (chunk c.args.position k c.args.bytes.now)) all in
    c.from.ensures ∙ (ap (fold_l (λ s x. s + x) 0) (map-id lanes) ∙ omega (arith, fold-sum 0 lanes, c.loop-block.invariant.0, whole))
