-- UTF-8 at the front, and what is known of the bytes after it.
use Rattle.wtf8.proofs.Common.{◌≡◌, ℕ, suc, ◌+◌, ◌-◌, ◌<◌, ◌≤◌, List, [], ◌∷◌, length, take, drop, IsUtf8, subst, arith, take-add, take-take, take-append-drop}
use Rattle.wtf8.proofs.Common.{length-take, length-drop, drop-take, length-append, append-nil, take_at, refl, sym, ap, ◌∙◌, common_steps, nat_tests}
use Rattle.wtf8.proofs.Common.{Bool, true, false, ◌&&◌}
use lib.Utf8.{encode, encodes, scalar, scalars}
use Rattle.std.specs.Str.Lossy.{utf8_error_len}
use Rattle.std.proofs.lemmas.Str.{IsUtf8-append, IsUtf8-drop, IsCharBoundary-from_take, length-encode, len_utf8_bounds}
use Rattle.std.specs.Str.{IsValidUpTo}

module _ (w : List ℕ) (n : ℕ) (within : n ≤ length w) (front : IsUtf8 (take n w)) where
  pub text_with_rest : IsUtf8 (drop n w) → IsUtf8 w
  text_with_rest rest = subst IsUtf8 (take-append-drop n w) (IsUtf8-append _ _ front rest)

  pub rest_of_text : IsUtf8 w → IsUtf8 (drop n w)
  rest_of_text whole = IsUtf8-drop w n whole (IsCharBoundary-from_take w n whole within front)

-- the longest front that is UTF-8 is a shorter one and the longest after that
pub valid_after : (w : List ℕ) (n k : ℕ) → n ≤ length w → IsUtf8 (take n w) → IsValidUpTo (drop n w) k → IsValidUpTo w (n + k)
valid_after w n k within front rest =
    record {
      short = omega (arith, rest.short, length-drop n w);
      front = rw take-add (IsUtf8-append _ _ front rest.front);
      longest = λ m more whole.
          let same : n + (m - n) ≡ m = omega arith in
          let later = rest_of_text (take m w) n (omega (arith, length-take m w)) (rw (take-take n m w (omega arith)) front) whole in
          rest.longest (m - n) (omega arith) (rw (← drop-take n (m - n) w, same) later);
    }

and_first : (a b : Bool) → (a && b) ≡ true → a ≡ true
and_first true b e = refl
and_first false b e = e

-- the first character of a text
record FirstChar (w : List ℕ) : Type 0 where
  pub len : ℕ
  pub some : 0 < len
  pub few : len ≤ 4
  pub within : len ≤ length w
  pub is : IsUtf8 (take len w)

first_char : (w cs : List ℕ) → scalars cs ≡ true → encodes cs ≡ w → 0 < length w → FirstChar w
first_char w [] s e some = absurd (omega (arith, some, ap length e))
first_char w (c ∷ cs) s e some =
    let long = length-encode c in
    record {
      len = length (encode c);
      some = omega (arith, long, (len_utf8_bounds c).0);
      few = omega (arith, long, (len_utf8_bounds c).1);
      within = omega (arith, ap length e, length-append (encode c) (encodes cs));
      is = subst IsUtf8 (sym (ap (take (length (encode c))) (sym e) ∙ take_at (encode c) (encodes cs) (length (encode c)) refl))
          (c ∷ [], (rw (and_first (scalar c) (scalars cs) s) refl, append-nil (encode c)));
    }

-- the length of what is wrong at the front is read off four bytes
error_by_four : (w : List ℕ) (k : ℕ) → 4 ≤ length w → utf8_error_len (take (suc (suc (suc (suc k)))) w) ≡ utf8_error_len w
unfolding utf8_error_len
error_by_four [] k l = absurd (omega (arith, l))
error_by_four (a ∷ []) k l = absurd (omega (arith, l))
error_by_four (a ∷ b ∷ []) k l = absurd (omega (arith, l))
error_by_four (a ∷ b ∷ c ∷ []) k l = absurd (omega (arith, l))
error_by_four (a ∷ b ∷ c ∷ d ∷ w) k l = grind (arith, common_steps, nat_tests)

-- Of the first `n` bytes the longest front that is UTF-8, if a code point fits after it, is that of all bytes.
module _ (w : List ℕ) (n k : ℕ) (fits : k + 4 ≤ n) (long : n ≤ length w) where
  pub valid_by_front : IsValidUpTo (take n w) k → IsValidUpTo w k
  valid_by_front v = record { short = omega (arith, fits, long); front = front; longest = longest }
    where
      front : IsUtf8 (take k w)
      front = rw (take-take k n w (omega (arith, fits))) at v.front

      longest : (m : ℕ) → k < m → ¬ (IsUtf8 (take m w))
      longest m more whole =
          let text = take m w in
          let count = length-take m w in
          let before : IsUtf8 (take k text) = subst IsUtf8 (sym (take-take k m w (omega (arith, more)))) front in
          let later = rest_of_text text k (omega (arith, count, more, fits, long)) before whole in
          let c = first_char (drop k text) later.0 later.1.0 later.1.1 (omega (arith, length-drop k text, count, more, fits, long)) in
          let end : k + c.len ≤ m = omega (arith, c.within, length-drop k text, count, more) in
          let both : IsUtf8 (take (k + c.len) text) =
          subst IsUtf8 (sym (take-add k c.len text)) (IsUtf8-append (take k text) (take c.len (drop k text)) before c.is) in
          v.longest (k + c.len) (omega (arith, c.some))
          (rw (take-take (k + c.len) n w (omega (arith, fits, c.few))) (rw (take-take (k + c.len) m w end) at both))

  -- and what is wrong after it has the same length
  pub error_by_front : utf8_error_len (drop k (take n w)) ≡ utf8_error_len (drop k w)
  error_by_front =
      let sum : k + suc (suc (suc (suc (n - k - 4)))) ≡ n = omega (arith, fits) in
      ap (λ m. utf8_error_len (drop k (take m w))) (sym sum)
      ∙ (ap utf8_error_len (drop-take k (suc (suc (suc (suc (n - k - 4))))) w)
      ∙ error_by_four (drop k w) (n - k - 4) (omega (arith, length-drop k w, fits, long)))
