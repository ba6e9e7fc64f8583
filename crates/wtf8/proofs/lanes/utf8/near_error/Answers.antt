use Rattle.wtf8.proofs.Common.{◌∙◌, arith, sym}
use Rattle.std.specs.Str.{valid_up_to}
use Rattle.wtf8.proofs.lemmas.strings.Utf8Fronts.{valid_by_front, error_by_front}
use Rattle.wtf8.proofs.lanes.utf8.near_error.Goals as goal

pub returns-clause-valid : goal.returns-clause-valid
returns-clause-valid c = valid_by_front c.args.bytes.now 16 c.valid_up_to-valid.result (omega (arith, c.if-valid-gt-NEAR.false))
    (omega (arith, c.if-bytes-lt-NEAR.false)) (rw c.valid_up_to-valid.ensures c.in-Err.ensures.cases.1)

pub returns-clause-wrong : goal.returns-clause-wrong
returns-clause-wrong c =
    let same = error_by_front c.args.bytes.now 16 (valid_up_to c.in-Err.error)
    (omega (arith, c.valid_up_to-valid.ensures, c.if-valid-gt-NEAR.false)) (omega (arith, c.if-bytes-lt-NEAR.false)) in
    rw c.valid_up_to-valid.ensures (sym (c.in-Err.ensures.fault ∙ same) ∙ (sym c.error_len.ensures ∙ c.in-Some.is))
