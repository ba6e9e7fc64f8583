use Rattle.wtf8.proofs.Common.{◌≡◌, ◌+◌, ◌≤◌, arith, rules, length-drop, take_all, sum_utf16_len}
use Rattle.wtf8.proofs.lemmas.units.CountedParts.{sum_utf16_len_parts}
use Rattle.wtf8.proofs.units.counts.count_units.Goals.{After-utf16_len_of_few-2}
use Rattle.wtf8.proofs.units.counts.count_units.Goals as goal

-- the units before the last bytes and those in them
total : (c : After-utf16_len_of_few-2) → c.skip_all_blocks-cursor.result.units + c.utf16_len_of_few-2.result ≡ sum_utf16_len c.args.bytes.now
total c = grind (arith, take_all, length-drop, sum_utf16_len_parts)

pub overflow_add-result : goal.overflow_add-result
overflow_add-result c =
    let same = total (goal.at.overflow_add-result c).After-utf16_len_of_few-2 in
    let most : c.skip_all_blocks-cursor.result.units + c.utf16_len_of_few-2.result ≤ 18446744073709551615 = omega (arith, same, c.requires) in
    search rules

pub returns : goal.returns
returns c = total (goal.at.returns c).After-utf16_len_of_few-2
