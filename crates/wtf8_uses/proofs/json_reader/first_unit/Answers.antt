use Rattle.std.proofs.Common.{refl}
use Rattle.wtf8_uses.proofs.JsonReaderLemmas.{digit_after, digit_at}
use Rattle.wtf8_uses.proofs.json_reader.first_unit.Goals as goal

pub returns-in_default-clause-none : goal.returns-in_default-clause-none
returns-in_default-clause-none c = λ unit after x. c.in_default.ensures.none _ _ x.first

pub returns-in_default-first_digit-clause-none : goal.returns-in_default-first_digit-clause-none
returns-in_default-first_digit-clause-none c = λ unit after x.
    let a = digit_after refl x.first c.in-Some.ensures.some in
    c.in_default-first_digit.ensures.none _ _ (digit_at a x.second)

pub returns-in_default-first_digit-2-clause-none : goal.returns-in_default-first_digit-2-clause-none
returns-in_default-first_digit-2-clause-none c = λ unit after x.
    let a = digit_after refl x.first c.in-Some.ensures.some in
    let b = digit_after a x.second c.in-Some-first_digit.ensures.some in
    c.in_default-first_digit-2.ensures.none _ _ (digit_at b x.third)

pub returns-in_default-first_digit-3-clause-none : goal.returns-in_default-first_digit-3-clause-none
returns-in_default-first_digit-3-clause-none c = λ unit after x.
    let a = digit_after refl x.first c.in-Some.ensures.some in
    let b = digit_after a x.second c.in-Some-first_digit.ensures.some in
    let d = digit_after b x.third c.in-Some-first_digit-2.ensures.some in
    c.in_default-first_digit-3.ensures.none _ _ (digit_at d x.fourth)

pub returns-clause-some : goal.returns-clause-some
returns-clause-some c = record {
  a = _;
  b = _;
  c = _;
  d = _;
  after_a = _;
  after_b = _;
  after_c = _;
  first = c.in-Some.ensures.some;
  second = c.in-Some-first_digit.ensures.some;
  third = c.in-Some-first_digit-2.ensures.some;
  fourth = c.in-Some-first_digit-3.ensures.some;
  is_unit = c.from_u32_unchecked.ensures;
}
