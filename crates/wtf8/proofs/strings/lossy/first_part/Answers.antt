use Rattle.wtf8.proofs.Common.{◌≡◌, ◌-◌, length, drop, ap, sym, ◌∙◌, arith, unwrap_or, length-drop}
use Rattle.std.specs.Str.Lossy.{utf8_error_len}
use Rattle.wtf8.proofs.strings.lossy.first_part.Goals as goal

pub returns-in-Some-clause-whole : goal.returns-in-Some-clause-whole
returns-in-Some-clause-whole c = λ l. absurd (omega (arith, l, c.in-Some.ensures.valid.short))

pub returns-in-Some-clause-wrong : goal.returns-in-Some-clause-wrong
returns-in-Some-clause-wrong c =
    λ _. sym (ap (λ o. unwrap_or o (length (drop c.in-Some.part.0 c.args.text.now))) c.in-Some.ensures.wrong)

pub returns-in-Err-clause-whole : goal.returns-in-Err-clause-whole
returns-in-Err-clause-whole c = λ l. absurd (omega (arith, l, c.valid_up_to-valid.ensures, c.in-Err.ensures.cases.1.short))

pub returns-in-Err-clause-wrong : goal.returns-in-Err-clause-wrong
returns-in-Err-clause-wrong c =
    let text = c.args.text.now in
    let n = c.valid_up_to-valid.result in
    let error : c.error_len.result ≡ utf8_error_len (drop n text) =
    c.error_len.ensures ∙ (c.in-Err.ensures.error_len ∙ ap (λ k. utf8_error_len (drop k text)) (sym c.valid_up_to-valid.ensures)) in
    let left : length text - n ≡ length (drop n text) = sym (length-drop n text) in
    λ _. c.unwrap_or.ensures ∙ (λ i. unwrap_or (error i) (left i))
