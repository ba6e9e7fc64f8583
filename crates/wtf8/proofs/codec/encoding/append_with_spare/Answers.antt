use Rattle.wtf8.proofs.Common.{arith, rules, common_steps}
use Rattle.wtf8.proofs.lemmas.codec.Encoding.{encoding_one}
use Rattle.wtf8.proofs.codec.encoding.append_with_spare.Goals as goal

pub returns-in_err-reserve_if_short : goal.returns-in_err-reserve_if_short
returns-in_err-reserve_if_short g c = grind (arith, common_steps, encoding_one)

pub returns-in_err-reserve_if_short-2 : goal.returns-in_err-reserve_if_short-2
returns-in_err-reserve_if_short-2 g c =
    record { ok = search rules; err = search rules; room = grind (arith, common_steps); capacity = search rules }

pub returns-in_err-reserve_if_short-3 : goal.returns-in_err-reserve_if_short-3
returns-in_err-reserve_if_short-3 g c =
    record { ok = search rules; err = search rules; room = grind (arith, common_steps); capacity = search rules }

pub returns-in_err-reserve_if_short-4 : goal.returns-in_err-reserve_if_short-4
returns-in_err-reserve_if_short-4 g c =
    record { ok = search rules; err = search rules; room = grind (arith, common_steps); capacity = search rules }
