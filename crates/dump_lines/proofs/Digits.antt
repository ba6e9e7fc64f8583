-- Reading the digits of a number one by one.
use Rattle.std.proofs.Common.{◌≡◌, ℕ, ◌+◌, ◌*◌, ◌^◌, ◌<◌, ◌≤◌, ◌&&◌, ◌≢◌, false, Some, None, List, refl, length, get_or, take, drop, inl}
use Rattle.std.proofs.Common.{inr, nat_le, arith, ap, sym, ◌∙◌, length-take}
use Rattle.std.proofs.Math.Nat.{pow-le-pow_right}
use Rattle.std.proofs.lemmas.Bool.{lt-ltb, le-ltb, cases_Bool}
use Rattle.std.proofs.lemmas.List.{drop_more}
use Rattle.std.proofs.lemmas.List.Folds.{list_all_at}
use Rattle.std.specs.List.{list_all}
use Rattle.std.specs.Char.{digit_value, is_digit}
use Rattle.std.specs.Str.Parse.{digits_value, AllDigits}
use Rattle.dump_lines.specs.Word.{bounded_number, point_of}
use Rattle.std.proofs.lemmas.Int.Digits.{digits_value-lt, digits_value_more, digits_more}

-- the value of at most `most` digits is below `base ^ most`
number_below : (base : ℕ) (word : List ℕ) (i n most : ℕ) → 2 ≤ base → length word ≤ most → n ≡ digits_value base (take i word)
    → AllDigits base (take i word) → n < base ^ most
number_below base word i n most least few spelled digits =
    let shorter : length (take i word) ≤ most = simp length-take (omega arith) in
    let power : base ^ length (take i word) ≤ base ^ most = pow-le-pow_right (omega arith) shorter in
    omega (arith, digits_value-lt base (take i word) digits)

-- the byte at index `i` is the digit `d`, and the digits before it have the value `n`
module _ (base : ℕ) (word : List ℕ) (i n d : ℕ) (here : i < length word) (lt : d < base) (is : d ≡ digit_value (get_or word i 0)) where
  digit-lt_base : digit_value (get_or word i 0) < base
  digit-lt_base = omega arith

  pub next_digits : AllDigits base (take i word) → AllDigits base (take (i + 1) word)
  next_digits digits = digits_more base word i here digits digit-lt_base

  pub next_number : n ≡ digits_value base (take i word) → n * base + d ≡ digits_value base (take (i + 1) word)
  next_number spelled =
      ap (λ m. m * base + d) spelled ∙ ap (λ k. digits_value base (take i word) * base + k) is ∙ sym (digits_value_more base word i here)

  pub next_below : (most : ℕ) → 2 ≤ base → length word ≤ most → n ≡ digits_value base (take i word) → AllDigits base (take i word)
      → n * base + d < base ^ most
  next_below most least few spelled digits =
      number_below base word (i + 1) (n * base + d) most least few (next_number spelled) (next_digits digits)

  -- the bytes from index `i` on are all digits if and only if the bytes after it are
  pub next_rest : list_all (λ byte. is_digit byte base) (drop i word) ≡ list_all (λ byte. is_digit byte base) (drop (i + 1) word)
  next_rest =
      ap (list_all (λ byte. is_digit byte base)) (drop_more word i 0 here)
      ∙ ap (λ passes. passes && list_all (λ byte. is_digit byte base) (drop (i + 1) word)) (lt-ltb _ _ digit-lt_base)

-- a word with a byte that is no digit has no value
pub bounded_number-none : (base least most : ℕ) (word : List ℕ) (i : ℕ) → i < length word → base ≤ digit_value (get_or word i 0)
    → bounded_number base least most word ≡ None
bounded_number-none base least most word i here none =
    let fails : list_all (λ byte. is_digit byte base) word ≡ false = list_all_at _ word i 0 here (le-ltb _ _ none) in
    elim (cases_Bool (nat_le least (length word) && nat_le (length word) most)) [ inl some ↦ rw (some, fails) refl | inr few ↦ rw few refl ]

-- a word of a code point holds no space
pub point_of-no_space : (word : List ℕ) (n k : ℕ) → point_of word ≡ Some n → k < length word → get_or word k 0 ≢ 32
point_of-no_space word n k is_point lt is =
    let none : None ≡ Some n = rw (bounded_number-none 16 4 6 word k lt (omega (arith, ap digit_value is))) at is_point in cc
