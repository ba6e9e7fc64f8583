-- Ends of a list that are fronts of another, and the longest of them, when an item is appended.
use Rattle.std.proofs.Common.{◌≡◌, ◌≢◌, ℕ, ◌+◌, ◌-◌, ◌<◌, ◌≤◌, List, [], ◌∷◌, ◌++◌, length, take, drop, get_or, refl, sym, ap, subst, ◌∙◌, arith, inl, inr, append_assoc, append-nil, length-append, length-drop, length-take, length-take-le}
use Rattle.std.proofs.Math.Seq.{drop-append_seam, take-append_seam}
use Rattle.std.proofs.lemmas.Bool.{cases_eq, cases_lt}
use Rattle.std.proofs.lemmas.List.{drop-append-le, take-append-drop, take_more}
use Rattle.unit_text.specs.private.Borders.{AreBorders, EndsWithFront, IsLongestFront}

-- equal lists with one item more
last_of : (a l : List ℕ) (y x : ℕ) → a ++ y ∷ [] ≡ l ++ x ∷ [] → (a ≡ l) × (y ≡ x)
last_of a l y x e =
    let long : length a ≡ length l = omega (arith, ap length e, length-append a (y ∷ []), length-append l (x ∷ [])) in (
      sym (take-append_seam a (y ∷ [])) ∙ ap (take (length a)) e ∙ ap (λ n. take n (l ++ x ∷ [])) long ∙ take-append_seam l (x ∷ []),
      ap (λ t. get_or t 0 0) (sym (drop-append_seam a (y ∷ [])) ∙ ap (drop (length a)) e ∙ ap (λ n. drop n (l ++ x ∷ [])) long
          ∙ drop-append_seam l (x ∷ [])),
    )

module _ (s : List ℕ) where
  pub front_len : (l : List ℕ) (k : ℕ) → EndsWithFront l s k → k ≤ length l
  front_len l k h = omega (arith, ap length h.ends, length-append h.before (take k s), length-take-le k s h.within)

  -- a list that ends with an end of `s`'s fronts
  pub ends_append : (l y : List ℕ) (m r : ℕ) → EndsWithFront l s m → EndsWithFront (take m s ++ y) s r → EndsWithFront (l ++ y) s r
  ends_append l y m r x z = record {
    before = x.before ++ z.before;
    within = z.within;
    ends = append_assoc x.before z.before (take r s) ∙ ap (λ t. x.before ++ t) z.ends ∙ sym (append_assoc x.before (take m s) y)
        ∙ ap (λ t. t ++ y) x.ends;
  }

  pub ends_trans : (l : List ℕ) (m r : ℕ) → EndsWithFront l s m → EndsWithFront (take m s) s r → EndsWithFront l s r
  ends_trans l m r x z = record {
    before = x.before ++ z.before;
    within = z.within;
    ends = append_assoc x.before z.before (take r s) ∙ ap (λ t. x.before ++ t) z.ends ∙ x.ends;
  }

  -- an end that is no longer than the end `t` is an end of that
  pub ends_between : (l a t : List ℕ) (k : ℕ) → a ++ t ≡ l → EndsWithFront l s k → k ≤ length t → EndsWithFront t s k
  ends_between l a t k e h short =
      let long : length a ≤ length h.before = omega (
        arith,
        ap length e,
        ap length h.ends,
        length-append a t,
        length-append h.before (take k s),
        length-take-le k s h.within,
        short,
      ) in
      record {
        before = drop (length a) h.before;
        within = h.within;
        ends = sym (drop-append-le (length a) h.before (take k s) long) ∙ ap (drop (length a)) (h.ends ∙ sym e) ∙ drop-append_seam a t;
      }

  -- borders are shorter than the list
  pub border_is_end : (l : List ℕ) (k : ℕ) → EndsWithFront (drop 1 l) s k → EndsWithFront l s k
  border_is_end l k h = record {
    before = take 1 l ++ h.before;
    within = h.within;
    ends = append_assoc (take 1 l) h.before (take k s) ∙ ap (λ t. take 1 l ++ t) h.ends ∙ take-append-drop 1 l;
  }

  pub end_is_border : (l : List ℕ) (k : ℕ) → k < length l → EndsWithFront l s k → EndsWithFront (drop 1 l) s k
  end_is_border l k short h =
      ends_between l (take 1 l) (drop 1 l) k (take-append-drop 1 l) h (omega (arith, short, length-drop 1 l))

  ends_more : (l : List ℕ) (k x : ℕ) → EndsWithFront l s k → k < length s → get_or s k 0 ≡ x → EndsWithFront (l ++ x ∷ []) s (k + 1)
  ends_more l k x h more same = record {
    before = h.before;
    within = omega (arith, more);
    ends = ap (λ t. h.before ++ t) (take_more s k 0 more ∙ ap (λ y. take k s ++ y ∷ []) same)
        ∙ sym (append_assoc h.before (take k s) (x ∷ [])) ∙ ap (λ t. t ++ x ∷ []) h.ends;
  }

  ends_less : (l : List ℕ) (k x : ℕ) → EndsWithFront (l ++ x ∷ []) s (k + 1) → EndsWithFront l s k × (get_or s k 0 ≡ x)
  ends_less l k x h =
      let more : k < length s = omega (arith, h.within) in
      let both = last_of (h.before ++ take k s) l (get_or s k 0) x
      (append_assoc h.before (take k s) (get_or s k 0 ∷ []) ∙ ap (λ t. h.before ++ t) (sym (take_more s k 0 more)) ∙ h.ends) in
      (record { before = h.before; within = omega (arith, more); ends = both.0 }, both.1)

  -- `l` ends with the first `k` items of `s`, and with no longer front that goes on with `x`
  pub record IsCandidate (l : List ℕ) (x k : ℕ) : Type 0 where
    pub is_end : EndsWithFront l s k
    pub none : (n : ℕ) → k < n → EndsWithFront l s n → get_or s n 0 ≢ x

  pub all_is_candidate : (k x : ℕ) → k ≤ length s → IsCandidate (take k s) x k
  all_is_candidate k x within = record {
    is_end = record { before = []; within = within; ends = refl };
    none = λ n more h. absurd (omega (arith, more, front_len (take k s) n h, length-take-le k s within));
  }

  pub next_candidate : (l : List ℕ) (x b c : ℕ) → IsCandidate l x b → get_or s b 0 ≢ x → IsLongestFront (drop 1 (take b s)) s c → IsCandidate l x c
  next_candidate l x b c old apart longest = record {
    is_end = ends_trans l b c old.is_end (border_is_end (take b s) c longest.is_end);
    none = λ n more h. elim (cases_lt b n) [
      | inl l ↦ old.none n l h
      | inr le ↦ elim (cases_eq n b) [
        | inl same ↦ subst (λ i. get_or s i 0 ≢ x) (sym same) apart
        | inr ne ↦
            let all = length-take-le b s old.is_end.within in
            absurd (longest.longest n more (end_is_border (take b s) n (omega (arith, le, ne, all))
            (ends_between l old.is_end.before (take b s) n old.is_end.ends h (omega (arith, le, all)))))
      ]
    ];
  }

  none_longer : (l : List ℕ) (x b : ℕ) → IsCandidate l x b → (n : ℕ) → b + 1 < n → ¬ (EndsWithFront (l ++ x ∷ []) s n)
  none_longer l x b old n more h =
      let one : n ≡ (n - 1) + 1 = omega (arith, more) in
      let less = ends_less l (n - 1) x (subst (EndsWithFront (l ++ x ∷ []) s) one h) in
      old.none (n - 1) (omega (arith, more)) less.0 less.1

  pub longest_more : (l : List ℕ) (x b : ℕ) → IsCandidate l x b → b < length s → get_or s b 0 ≡ x → IsLongestFront (l ++ x ∷ []) s (b + 1)
  longest_more l x b old more same = record {
    is_end = ends_more l b x old.is_end more same;
    longest = none_longer l x b old;
  }

  pub longest_none : (l : List ℕ) (x : ℕ) → IsCandidate l x 0 → get_or s 0 0 ≢ x → IsLongestFront (l ++ x ∷ []) s 0
  longest_none l x old apart = record {
    is_end = record { before = l ++ x ∷ []; within = omega arith; ends = append-nil (l ++ x ∷ []) };
    longest = λ n more h. elim (cases_eq n 1) [
      | inl one ↦ apart (ends_less l 0 x (subst (EndsWithFront (l ++ x ∷ []) s) one h)).1
      | inr ne ↦ none_longer l x 0 old n (omega (arith, more, ne)) h
    ];
  }

  -- an end that is at most an item longer than the end `b`
  pub in_end : (l : List ℕ) (x b n : ℕ) → EndsWithFront l s b → EndsWithFront (l ++ x ∷ []) s n → n ≤ b + 1 → EndsWithFront (take b s ++ x ∷ []) s n
  in_end l x b n end h short =
      ends_between (l ++ x ∷ []) end.before (take b s ++ x ∷ []) n
      (sym (append_assoc end.before (take b s) (x ∷ [])) ∙ ap (λ t. t ++ x ∷ []) end.ends) h
      (omega (arith, short, length-append (take b s) (x ∷ []), length-take-le b s end.within))

  -- the longest front of a list and an item after it is told by the longest front of the list
  pub longest_append : (l : List ℕ) (x b r : ℕ) → IsLongestFront l s b → IsLongestFront (take b s ++ x ∷ []) s r → IsLongestFront (l ++ x ∷ []) s r
  longest_append l x b r old new = record {
    is_end = ends_append l (x ∷ []) b r old.is_end new.is_end;
    longest = λ n more h. elim (cases_lt (b + 1) n) [
      | inl long ↦
          let one : n ≡ (n - 1) + 1 = omega (arith, more) in
          old.longest (n - 1) (omega (arith, long)) (ends_less l (n - 1) x (subst (EndsWithFront (l ++ x ∷ []) s) one h)).0
      | inr short ↦ new.longest n more (in_end l x b n old.is_end h short)
    ];
  }

module _ (s : List ℕ) where
  -- an entry of a table
  pub border_known : (borders : List ℕ) (count b r : ℕ) → AreBorders s borders count → 0 < b → b ≤ count → r ≡ get_or borders (b - 1) 0
      → IsLongestFront (drop 1 (take b s)) s r
  border_known borders count b r known some within same =
      let one : b - 1 + 1 ≡ b = omega (arith, some) in
      subst (λ n. IsLongestFront (drop 1 (take n s)) s r) one
      (subst (IsLongestFront (drop 1 (take (b - 1 + 1) s)) s) (sym same) (known (b - 1) (omega (arith, some, within))))

  pub border_shorter : (b r : ℕ) → 0 < b → IsLongestFront (drop 1 (take b s)) s r → r < b
  border_shorter b r some h =
      omega (arith, some, front_len s (drop 1 (take b s)) r h.is_end, length-drop 1 (take b s), length-take b s)

  -- the next entry of a table
  pub next_border : (len b r : ℕ) → 0 < len → len < length s → IsLongestFront (drop 1 (take len s)) s b
      → IsLongestFront (take b s ++ get_or s len 0 ∷ []) s r → IsLongestFront (drop 1 (take (len + 1) s)) s r
  next_border len b r some within known new =
      let x = get_or s len 0 in
      let longer : drop 1 (take len s) ++ x ∷ [] ≡ drop 1 (take (len + 1) s) =
      sym (ap (drop 1) (take_more s len 0 within)
      ∙ drop-append-le 1 (take len s) (x ∷ []) (omega (arith, some, within, length-take len s))) in
      subst (λ l. IsLongestFront l s r) longer (longest_append s (drop 1 (take len s)) x b r known new)
