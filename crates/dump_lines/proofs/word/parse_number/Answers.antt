use Rattle.std.proofs.Common.{sym, ◌∙◌, arith}
use Rattle.dump_lines.proofs.Digits.{bounded_number-none, next_digits, next_number, next_below, next_rest}
use Rattle.dump_lines.proofs.word.parse_number.Goals as goal

pub returns-then-digit-base : goal.returns-then-digit-base
returns-then-digit-base c = sym (bounded_number-none _ _ _ _ _ c.loop-byte-test.true (omega arith))

pub overflow_mul-number : goal.overflow_mul-number
overflow_mul-number c =
    let i = c.loop-byte.invariant in
    omega (
      arith,
      next_below _ _ _ _ _ c.loop-byte-test.true (omega arith) c.digit_of-digit.ensures c.args.most c.requires.least_base
          (omega arith) i.spelled i.digits,
    )

pub overflow_add-number : goal.overflow_add-number
overflow_add-number c =
    let i = c.loop-byte.invariant in
    omega (
      arith,
      next_below _ _ _ _ _ c.loop-byte-test.true (omega arith) c.digit_of-digit.ensures c.args.most c.requires.least_base
          (omega arith) i.spelled i.digits,
    )

pub loop-byte-preserved : goal.loop-byte-preserved
loop-byte-preserved c =
    let i = c.loop-byte.invariant in
    let digit = c.digit_of-digit.ensures in
    let number = c.loop-byte.number in
    record {
      spelled = next_number _ _ _ _ _ c.loop-byte-test.true (omega arith) digit i.spelled;
      digits = next_digits _ _ _ number _ c.loop-byte-test.true (omega arith) digit i.digits;
      rest = i.rest ∙ next_rest _ _ _ number _ c.loop-byte-test.true (omega arith) digit;
    }
