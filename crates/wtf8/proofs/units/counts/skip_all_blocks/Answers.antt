use Rattle.wtf8.proofs.Common.{◌+◌, ◌≤◌, arith, rules}
use Rattle.wtf8.proofs.lemmas.strings.Positions.{sum_utf16_len-ascii, sum_utf16_len_take_add}
use Rattle.wtf8.proofs.lemmas.units.CountedParts.{sum_utf16_len_front_le}
use Rattle.wtf8.proofs.units.counts.skip_all_blocks.Goals as goal

pub skip_summed_blocks-from-requires : goal.skip_summed_blocks-from-requires
skip_summed_blocks-from-requires c =
    let front = c.ascii_front_len-ascii.ensures in
    let w = c.args.bytes.now in
    let all = sum_utf16_len-ascii w 0 c.ascii_front_len-ascii.result (omega (arith, front.within)) (λ j l. grind (arith, front.ascii j l)) in
    record { within = front.within; counted = grind (arith, all); not_beyond = omega arith }

pub overflow_add-units : goal.overflow_add-units
overflow_add-units c =
    let w = c.args.bytes.now in
    let at = c.loop-position.position in
    let most : c.loop-position.units + c.utf16_len_of_block-units.result ≤ 18446744073709551615 =
    omega (arith, c.utf16_len_of_block-units.ensures, sum_utf16_len_take_add w at 32, sum_utf16_len_front_le w (at + 32), c.loop-position.invariant.counted, c.requires) in
    search rules

pub loop-position-preserved : goal.loop-position-preserved
loop-position-preserved c =
    let w = c.args.bytes.now in
    let at = c.loop-position.position in
    let more = c.utf16_len_of_block-units.ensures in
    let both = sum_utf16_len_take_add w at 32 in
    record {
      within = omega (arith, c.loop-position-test.true, c.loop-position.invariant.within);
      counted = omega (arith, more, both, c.loop-position.invariant.counted);
      not_beyond = omega (arith, more, both, c.loop-position.invariant.counted, sum_utf16_len_front_le w (at + 32), c.requires);
    }
