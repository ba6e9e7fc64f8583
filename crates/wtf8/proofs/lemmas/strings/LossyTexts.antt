-- The text of bytes with U+FFFD for each maximal part that is not UTF-8.
use Rattle.wtf8.proofs.Common.{◌≡◌, ℕ, zero, suc, ◌+◌, ◌<◌, ◌≤◌, List, [], ◌++◌, length, take, drop, Option, None, Some, unwrap_or, IsUtf8}
use Rattle.wtf8.proofs.Common.{inl, inr, ◌∷◌, cases_Bool, cases_lt, take_all, on_ok_weaker, Result, Ok, Err, OnOk, OnErr, length-append, refl, sym, ap, ◌∙◌, subst, arith, append_assoc, append-nil, common_steps, nat_tests, length-drop, drop-drop, take_at}
use Rattle.wtf8.proofs.Common.{chars, form_of, units, IsForm, IsFront}
use Rattle.wtf8.proofs.Common.{◌-◌, get_or-drop, slice_index}
use Rattle.wtf8.specs.Utf8.{IsUnfinished, LeavesUnfinished}
use lib.Utf8.{encode}
use Rattle.std.proofs.lemmas.Bool.{cond-true, cond-false}
use Rattle.std.proofs.lemmas.Str.{utf8_lossy-IsUtf8, utf8_lossy_step, utf8_lossy_empty, utf8_valid_len-IsValidUpTo, IsUtf8-append, IsUtf8-from_is_utf8}
use Rattle.std.specs.Str.{IsValidUpTo, is_utf8}
use Rattle.wtf8.proofs.lemmas.codec.Readings.{form-append}
use Rattle.wtf8.proofs.lemmas.strings.ExtendedForms.{scalar_back_unpaired, scalar_text, well_formed_text}
use Rattle.std.specs.Str.Lossy.{utf8_lossy, utf8_valid_len, utf8_error_len, utf8_invalid_len, after_first_chunk, replacement_bytes, valid_len_up_to}

-- wrong bytes have a length, which is at most that of the bytes
pub error_within : (w : List ℕ) (k : ℕ) → utf8_error_len w ≡ Some k → (0 < k) × (k ≤ length w)
unfolding utf8_error_len
error_within w k e = grind (arith, common_steps, nat_tests)

-- the text of bytes is their longest front that is UTF-8, U+FFFD, and the text of what is after the wrong part
module _ (w : List ℕ) (n : ℕ) (front : IsValidUpTo w n) where
  pub text_after : (k : ℕ) → utf8_invalid_len (drop n w) ≡ k → (take n w ++ replacement_bytes) ++ utf8_lossy (drop k (drop n w)) ≡ utf8_lossy w
  text_after k e =
      let valid = utf8_valid_len-IsValidUpTo w n front in
      let faulty : ¬ (utf8_valid_len w ≡ length w) = λ all. omega (arith, all, valid, front.short) in
      let step : utf8_lossy w ≡ take n w ++ (replacement_bytes ++ utf8_lossy (drop (n + k) w)) = rw (valid, e) at (utf8_lossy_step w faulty) in
      append_assoc (take n w) replacement_bytes _ ∙ ap (λ r. take n w ++ (replacement_bytes ++ utf8_lossy r)) (drop-drop k n w) ∙ sym step

-- The text is UTF-8.

front_is_text : (w : List ℕ) (m : ℕ) → IsUtf8 (take (valid_len_up_to w m) w)
front_is_text w zero = ([], (refl, refl))
front_is_text w (suc m) = elim (cases_Bool (is_utf8 (take (suc m) w))) [
  | inl t ↦ subst (λ n. IsUtf8 (take n w)) (sym (cond-true _ _ _ t)) (IsUtf8-from_is_utf8 _ t)
  | inr f ↦ subst (λ n. IsUtf8 (take n w)) (sym (cond-false _ _ _ f)) (front_is_text w m)
]

valid_front : (w : List ℕ) → IsUtf8 (take (utf8_valid_len w) w)
unfolding utf8_valid_len
valid_front w = front_is_text w (length w)

pub some_wrong : (w : List ℕ) → 0 < length w → 0 < utf8_invalid_len w
some_wrong w some = by_len (utf8_error_len w) refl
  where
    by_len : (o : Option ℕ) → utf8_error_len w ≡ o → 0 < unwrap_or o (length w)
    by_len None e = some
    by_len (Some k) e = (error_within w k e).0

pub wrong_within : (w : List ℕ) → utf8_invalid_len w ≤ length w
wrong_within w = by_len (utf8_error_len w) refl
  where
    by_len : (o : Option ℕ) → utf8_error_len w ≡ o → unwrap_or o (length w) ≤ length w
    by_len None e = omega arith
    by_len (Some k) e = (error_within w k e).1

replacement_is_text : IsUtf8 replacement_bytes
unfolding encode
replacement_is_text = (0xFFFD ∷ [], (refl, refl))

text_within : (n : ℕ) (w : List ℕ) → length w ≤ n → IsUtf8 (utf8_lossy w)
text_within zero w short = rw (utf8_lossy_empty w (omega (arith, short))) (([], (refl, refl)))
text_within (suc n) w short = elim (cases_lt (utf8_valid_len w) (length w)) [
  | inl wrong ↦
      let valid = utf8_valid_len w in
      let later = drop valid w in
      let some = some_wrong later (omega (arith, wrong, length-drop valid w)) in
      let shorter : length (after_first_chunk w) ≤ n = omega (arith, short, some, wrong, length-drop (valid + utf8_invalid_len later) w) in
      subst IsUtf8 (sym (utf8_lossy_step w (λ e. omega (arith, e, wrong))))
      (IsUtf8-append _ _ (valid_front w) (IsUtf8-append _ _ replacement_is_text (text_within n (after_first_chunk w) shorter)))
  | inr whole ↦
      let all = subst IsUtf8 (take_all (utf8_valid_len w) w whole) (valid_front w) in
      subst IsUtf8 (sym (utf8_lossy-IsUtf8 w all)) all
]

pub is_text : (w : List ℕ) → IsUtf8 (utf8_lossy w)
is_text w = text_within (length w) w (omega arith)

-- Reading part by part.

-- `now` is `old` followed by the text of what of `text` is before `rest`
pub record ReadsParts (old now text rest : List ℕ) : Type 0 where
  pub more : List ℕ
  pub appended : now ≡ old ++ more
  pub read : more ++ utf8_lossy rest ≡ utf8_lossy text

pub parts_begin : (old text : List ℕ) → ReadsParts old old text text
parts_begin old text = record { more = []; appended = sym (append-nil old); read = refl }

pub parts_next : {old now text rest new later : List ℕ} (part : List ℕ) → ReadsParts old now text rest → new ≡ now ++ part
    → part ++ utf8_lossy later ≡ utf8_lossy rest → ReadsParts old new text later
parts_next {old} {now} {text} {rest} {new} {later} part r e step = record {
  more = r.more ++ part;
  appended = e ∙ ap (λ w. w ++ part) r.appended ∙ append_assoc old r.more part;
  read = append_assoc r.more part (utf8_lossy later) ∙ ap (λ w. r.more ++ w) step ∙ r.read;
}

pub parts_kept : {old now text rest : List ℕ} → ReadsParts old now text rest → take (length old) now ≡ old
parts_kept {old} r = ap (take (length old)) r.appended ∙ take_at old r.more (length old) refl

-- what is left of the text, after what was read, is as long as the whole after the old bytes
pub parts_whole : {old now text rest : List ℕ} → ReadsParts old now text rest → now ++ utf8_lossy rest ≡ old ++ utf8_lossy text
parts_whole {old} {now} {text} {rest} r =
    ap (λ w. w ++ utf8_lossy rest) r.appended ∙ append_assoc old r.more (utf8_lossy rest) ∙ ap (λ w. old ++ w) r.read

-- a part that is read is no longer than what is left of the text
pub part_within : {old now text rest : List ℕ} (part later : List ℕ) → ReadsParts old now text rest
    → part ++ utf8_lossy later ≡ utf8_lossy rest → length (now ++ part) ≤ length (old ++ utf8_lossy text)
part_within {now = now} {rest = rest} part later r step = omega (
  arith,
  ap length (parts_whole r),
  length-append now part,
  length-append now (utf8_lossy rest),
  ap length step,
  length-append part (utf8_lossy later),
)

-- the last part is UTF-8
pub last_part : {old now text rest : List ℕ} → ReadsParts old now text rest → IsUtf8 rest → now ++ rest ≡ old ++ utf8_lossy text
last_part {now = now} r u = ap (λ w. now ++ w) (sym (utf8_lossy-IsUtf8 _ u)) ∙ parts_whole r

module _ {T E : Type 0} {old now text rest : List ℕ} (new part : List ℕ) (call : Result T E) (r : ReadsParts old now text rest)
    (ok : OnOk call (new ≡ now ++ part)) where
  pub text_whole : now ++ part ≡ old ++ utf8_lossy text → OnOk call (new ≡ old ++ utf8_lossy text)
  text_whole e = on_ok_weaker call (λ h. h ∙ e) ok

  -- an append leaves the old bytes at the front
  pub begins_after : OnErr call (new ≡ now) → take (length old) new ≡ old
  begins_after err = kept_by call ok err
    where
      kept_by : (x : Result T E) → OnOk x (new ≡ now ++ part) → OnErr x (new ≡ now) → take (length old) new ≡ old
      kept_by (Ok _) is _ =
          ap (take (length old)) (is ∙ ap (λ w. w ++ part) r.appended ∙ append_assoc old r.more part)
          ∙ take_at old (r.more ++ part) (length old) refl
      kept_by (Err _) _ is = ap (take (length old)) is ∙ parts_kept r

-- a text that is appended begins at a boundary
pub text_apart : {w u : List ℕ} (f : IsForm w u) (t : List ℕ) → IsUtf8 t → IsFront (u ++ units (chars t)) (length w) u
text_apart f t text =
    let whole = form-append f (form_of (well_formed_text t text)) (scalar_back_unpaired (scalar_text text)) in
    record {
      front = f.points;
      back = chars t;
      splits = record { reads = whole.reads; front_len = ap length f.encoded };
      same_units = f.reads.same_units;
    }

-- An unfinished code point at the end.

-- it has at most three bytes, of which only the first is no continuation byte
pub record Unfinished (w : List ℕ) : Type 0 where
  pub few : length w ≤ 3
  pub first : 0xC0 ≤ slice_index w 0
  pub second : 1 < length w → slice_index w 1 < 0xC0
  pub third : 2 < length w → slice_index w 2 < 0xC0

error_none_few : (w : List ℕ) → 0 < length w → utf8_error_len w ≡ None → length w ≤ 3
unfolding utf8_error_len
error_none_few w some e = grind (arith, common_steps, nat_tests)

error_none_first : (w : List ℕ) → 0 < length w → utf8_error_len w ≡ None → 0xC0 ≤ slice_index w 0
unfolding utf8_error_len
error_none_first w some e = grind (arith, common_steps, nat_tests)

error_none_second : (w : List ℕ) → 1 < length w → utf8_error_len w ≡ None → slice_index w 1 < 0xC0
unfolding utf8_error_len
error_none_second w some e = grind (arith, common_steps, nat_tests)

error_none_third : (w : List ℕ) → 2 < length w → utf8_error_len w ≡ None → slice_index w 2 < 0xC0
unfolding utf8_error_len
error_none_third w some e = grind (arith, common_steps, nat_tests)

pub unfinished : {w : List ℕ} → IsUnfinished w → Unfinished w
unfinished {w} u = record {
  few = error_none_few w u.0 u.2;
  first = error_none_first w u.0 u.2;
  second = λ l. error_none_second w l u.2;
  third = λ l. error_none_third w l u.2;
}

index_after : (w : List ℕ) (k j at : ℕ) → k + j ≡ at → slice_index (drop k w) j ≡ slice_index w at
index_after w k j at e = get_or-drop k w j 0 ∙ ap (slice_index w) e

-- it begins at the last byte that is no continuation byte
pub begins_last : (w : List ℕ) (at k : ℕ) → 0xC0 ≤ slice_index w at → at < length w
    → ((j : ℕ) → at < j → j < length w → slice_index w j < 0xC0) → IsUnfinished (drop k w) → k ≡ at
begins_last w at k lead within later u =
    let is = unfinished u in
    let long = length-drop k w in
    elim (cases_lt k at) [
      | inl before ↦ elim (cases_lt (k + 1) at) [
        | inl far ↦
            let third : slice_index (drop k w) 2 ≡ slice_index w at = index_after w k 2 at (omega (arith, far, is.few, long, within)) in
            absurd (omega (arith, third, lead, is.third (omega (arith, far, long, within))))
        | inr near ↦
            let second : slice_index (drop k w) 1 ≡ slice_index w at = index_after w k 1 at (omega (arith, before, near)) in
            absurd (omega (arith, second, lead, is.second (omega (arith, before, long, within))))
      ]
      | inr after ↦ elim (cases_lt at k) [
        | inl past ↦
            let first = index_after w k 0 k (omega arith) in
            absurd (omega (arith, first, is.first, later k past (omega (arith, u.0, long))))
        | inr last ↦ omega (arith, after, last)
      ]
    ]

-- there is none if the last bytes are continuation bytes
pub none_begins : (w : List ℕ) (from k : ℕ) → from ≤ length w - 3
    → ((j : ℕ) → from ≤ j → j < length w → slice_index w j < 0xC0) → ¬ (IsUnfinished (drop k w))
none_begins w from k few later u =
    let is = unfinished u in
    let long = length-drop k w in
    omega (arith, index_after w k 0 k (omega arith), is.first, later k (omega (arith, is.few, long, few, u.0)) (omega (arith, u.0, long)))

-- all bytes are before it if there is none
pub none_left_out : (w : List ℕ) → ((k : ℕ) → ¬ (IsUnfinished (drop k w))) → LeavesUnfinished w (length w)
none_left_out w none = record { within = omega arith; rest = λ l. absurd (omega (arith, l)); only = λ k u. absurd (none k u) }
