-- A search in a part of a text: how much of a front the part has reached.
use Rattle.std.proofs.Common.{◌≡◌, ℕ, ◌+◌, ◌-◌, ◌<◌, ◌≤◌, List, [], ◌∷◌, ◌++◌, length, take, drop, get_or, sym, ap, subst, ◌∙◌, arith, inl, inr, append_assoc, append-nil, length-append, length-drop, length-take, length-take-le, suc}
use Rattle.std.proofs.Math.Seq.{drop-append_seam, drop-cons, take-append_seam, take-append-add}
use Rattle.std.proofs.lemmas.Bool.{cases_eq, cases_lt}
use Rattle.std.proofs.lemmas.List.{append_cancel_left, drop-append-le, get_or_append_left, take-append-drop, take-append-le, take-take, take_all, take_more}
use Rattle.unit_text.specs.Search.{OccursAt, IsFirstIndex}
use Rattle.unit_text.specs.private.Borders.{EndsWithFront, IsLongestFront}
use Rattle.unit_text.specs.private.Search.{BeginsApart}
use Rattle.unit_text.proofs.BorderLemmas.{end_is_border, border_is_end, ends_append, ends_between, ends_trans, front_len, in_end, border_shorter}
use Rattle.unit_text.proofs.SearchLemmas.{IsLastBelow, NoneBelow, NoneBetween, first_of_rest, occurs_in_rest, occurs_there, rest_of_part, unit_in_part}

-- the text `l` and `y` after it, in which `front` and `tail` after it are searched for
module _ (l y front tail : List ℕ) where
  pub occurs_end : (j k : ℕ) → j + k ≡ length l → k ≤ length front → OccursAt (l ++ y) (front ++ tail) j → EndsWithFront l front k
  occurs_end j k sum short o =
      let n = length (front ++ tail) in
      let long : k ≤ n = omega (arith, short, length-append front tail) in
      let own : drop j l ≡ take k front =
      sym (take-append_seam (drop j l) y) ∙ ap (λ i. take i (drop j l ++ y)) (omega (arith, sum, length-drop j l))
      ∙ ap (take k) (sym (drop-append-le j l y (omega (arith, sum)))) ∙ sym (take-take k n (drop j (l ++ y)) long) ∙ ap (take k) o.there
      ∙ take-append-le k front tail short in
      record {
        before = take j l;
        within = short;
        ends = ap (λ t. take j l ++ t) (sym own) ∙ take-append-drop j l;
      }

  -- an end that is the whole front
  module _ (e : EndsWithFront l front (length front)) where
    from_front : drop (length l - length front) (l ++ y) ≡ front ++ y
    from_front =
        let all : e.before ++ front ≡ l = ap (λ t. e.before ++ t) (sym (take_all (length front) front (omega arith))) ∙ e.ends in
        let begin : length l - length front ≡ length e.before = omega (arith, ap length all, length-append e.before front) in
        ap (λ n. drop n (l ++ y)) begin ∙ ap (λ t. drop (length e.before) (t ++ y)) (sym all)
        ∙ ap (drop (length e.before)) (append_assoc e.before front y) ∙ drop-append_seam e.before (front ++ y)

    begun : take (length (front ++ tail)) (drop (length l - length front) (l ++ y)) ≡ front ++ take (length tail) y
    begun =
        ap (take (length (front ++ tail))) from_front ∙ ap (λ n. take n (front ++ y)) (length-append front tail)
        ∙ take-append-add front y (length tail)

    occurs_if : take (length tail) y ≡ tail → OccursAt (l ++ y) (front ++ tail) (length l - length front)
    occurs_if b =
        occurs_there (l ++ y) (front ++ tail) (length l - length front) (omega (arith, length-append l y)) (begun ∙ ap (λ t. front ++ t) b)

    only_if : OccursAt (l ++ y) (front ++ tail) (length l - length front) → take (length tail) y ≡ tail
    only_if o = append_cancel_left front (take (length tail) y) tail (sym begun ∙ o.there)

  -- `l` ends with the first `m` items of `front`, and no occurrence begins before these
  pub record IsReached (m : ℕ) : Type 0 where
    pub ends : EndsWithFront l front m
    pub none : NoneBelow (l ++ y) (front ++ tail) (length l - m)

  pub reached_all : IsReached (length front) → take (length tail) y ≡ tail → IsFirstIndex (l ++ y) (front ++ tail) 0 (length l - length front)
  reached_all r b = record {
    after = omega arith;
    occurs = occurs_if r.ends b;
    no_earlier = λ j _ below. r.none j below;
  }

  -- after the beginning of an end that is the whole front, none begins before that of its longest border
  pub none_before_border : (b k : ℕ) → EndsWithFront l front (length front) → IsLongestFront (drop 1 (take (length front) front)) front b
      → length l - length front < k → k < length l - b → ¬ (OccursAt (l ++ y) (front ++ tail) k)
  none_before_border b k e longest after below there =
      let n = length front in
      let all = length-take-le n front (omega arith) in
      let long = front_len front l n e in
      let end = occurs_end k (length l - k) (omega (arith, below)) (omega (arith, after, long)) there in
      longest.longest (length l - k) (omega (arith, below))
      (end_is_border front (take n front) (length l - k) (omega (arith, after, long, all, below))
      (ends_between front l e.before (take n front) (length l - k) e.ends end (omega (arith, after, long, all))))

  -- the longest border of an end that is the whole front
  pub border_of_end : (b : ℕ) → EndsWithFront l front (length front) → IsLongestFront (drop 1 (take (length front) front)) front b
      → EndsWithFront l front b
  border_of_end b e longest = ends_trans front l (length front) b e (border_is_end front (take (length front) front) b longest.is_end)

  pub not_followed : (b : ℕ) → IsReached (length front) → ¬ (take (length tail) y ≡ tail)
      → IsLongestFront (drop 1 (take (length front) front)) front b → IsReached b
  not_followed b r apart longest =
      let n = length front in
      record {
        ends = border_of_end b r.ends longest;
        none = λ k below there. elim (cases_lt k (length l - n)) [
          | inl h ↦ r.none k h there
          | inr h ↦ elim (cases_eq k (length l - n)) [
            | inl same ↦ apart (only_if r.ends (subst (OccursAt (l ++ y) (front ++ tail)) same there))
            | inr ne ↦ none_before_border b k r.ends longest (omega (arith, h, ne)) below there
          ]
        ];
      }

-- the unit after `l`
pub reached_next : (l y front tail : List ℕ) (x m r : ℕ) → m < length front → IsReached l (x ∷ y) front tail m
    → IsLongestFront (take m front ++ x ∷ []) front r → IsReached (l ++ x ∷ []) y front tail r
reached_next l y front tail x m r short old longest =
    let more = length-append l (x ∷ []) in
    let long = front_len front l m old.ends in
    let text : (l ++ x ∷ []) ++ y ≡ l ++ x ∷ y = append_assoc l (x ∷ []) y in
    record {
      ends = ends_append front l (x ∷ []) m r old.ends longest.is_end;
      none = λ k below there. elim (cases_lt k (length l - m)) [
        | inl h ↦ old.none k h (subst (λ t. OccursAt t (front ++ tail) k) text there)
        | inr h ↦
            let n = length (l ++ x ∷ []) - k in
            let end = occurs_end (l ++ x ∷ []) y front tail k n (omega (arith, below)) (omega (arith, h, long, more, short)) there in
            longest.longest n (omega (arith, below)) (in_end front l x m n old.ends end (omega (arith, h, long, more)))
      ];
    }

-- a part of a text, the list `a` before it and `back` after it
module _ (a part back front tail : List ℕ) where
  seen_next : (i : ℕ) → i < length part → (a ++ take i part) ++ get_or part i 0 ∷ [] ≡ a ++ take (i + 1) part
  seen_next i within = append_assoc a (take i part) (get_or part i 0 ∷ []) ∙ ap (λ t. a ++ t) (sym (take_more part i 0 within))

  left_next : (i : ℕ) → i < length part → drop i part ++ back ≡ get_or part i 0 ∷ drop (i + 1) part ++ back
  left_next i within =
      let next : suc i ≡ i + 1 = omega arith in
      ap (λ t. t ++ back) (drop-cons part i 0 within ∙ ap (λ n. get_or part i 0 ∷ drop n part) next)

  text_at : (i : ℕ) → (a ++ take i part) ++ (drop i part ++ back) ≡ (a ++ part) ++ back
  text_at i =
      sym (append_assoc (a ++ take i part) (drop i part) back)
      ∙ ap (λ t. t ++ back) (append_assoc a (take i part) (drop i part) ∙ ap (λ t. a ++ t) (take-append-drop i part))

  pub reached_after : (i m r : ℕ) → i < length part → m < length front → IsReached (a ++ take i part) (drop i part ++ back) front tail m
      → IsLongestFront (take m front ++ get_or part i 0 ∷ []) front r
      → IsReached (a ++ take (i + 1) part) (drop (i + 1) part ++ back) front tail r
  reached_after i m r within short old longest =
      let later = drop (i + 1) part ++ back in
      subst (λ t. IsReached t later front tail r) (seen_next i within)
      (reached_next (a ++ take i part) later front tail (get_or part i 0) m r short
      (subst (λ t. IsReached (a ++ take i part) t front tail m) (left_next i within) old) longest)

  -- a unit of the part that is one of an occurrence
  unit_of_part : (k d : ℕ) → length a ≤ k → k - length a + d < length part → d < length front → OccursAt ((a ++ part) ++ back) (front ++ tail) k
      → get_or part (k - length a + d) 0 ≡ get_or front d 0
  unit_of_part k d after within short there =
      let rest = occurs_in_rest ((a ++ part) ++ back) (front ++ tail) (length a)
      (omega (arith, length-append (a ++ part) back, length-append a part)) k after there in
      let own = ap (drop (length a)) (append_assoc a part back) ∙ drop-append_seam a (part ++ back) in
      unit_in_part part back (front ++ tail) (k - length a) d within (omega (arith, short, length-append front tail))
      (subst (λ t. OccursAt t (front ++ tail) (k - length a)) own rest)
      ∙ get_or_append_left front tail 0 d short

  -- where the first two units do not begin nothing is found
  apart_is_none : (k : ℕ) → length a ≤ k → k - length a < length part → 0 < length front → BeginsApart part front (k - length a)
      → ¬ (OccursAt ((a ++ part) ++ back) (front ++ tail) k)
  apart_is_none k after within some apart there =
      let zero_more : k - length a + 0 ≡ k - length a = omega arith in
      elim apart [
        | inl first ↦ first (ap (λ i. get_or part i 0) (sym zero_more) ∙ unit_of_part k 0 after (omega (arith, within)) some there)
        | inr second ↦ second.2 (unit_of_part k 1 after second.1 second.0 there)
      ]

  -- units from `i` to `j` at which `front` does not begin are passed if nothing is reached
  reached_skipped : (i j : ℕ) → 0 < length front → j ≤ length part → ((k : ℕ) → i ≤ k → k < j → BeginsApart part front k)
      → IsReached (a ++ take i part) (drop i part ++ back) front tail 0 → i ≤ j
      → IsReached (a ++ take j part) (drop j part ++ back) front tail 0
  reached_skipped i j some within apart r order = record {
    ends = record { before = a ++ take j part; within = omega arith; ends = append-nil (a ++ take j part) };
    none = λ k below there.
        let own = subst (λ t. OccursAt t (front ++ tail) k) (text_at j) there in
        elim (cases_lt k (length a + i)) [
          | inl h ↦ r.none k (omega (arith, h, length-append a (take i part), length-take-le i part (omega (arith, order, within))))
              (subst (λ t. OccursAt t (front ++ tail) k) (sym (text_at i)) own)
          | inr h ↦
              let under : k < length a + j = omega (arith, below, length-append a (take j part), length-take-le j part within) in
              apart_is_none k (omega (arith, h)) (omega (arith, under, within, h)) some
              (apart (k - length a) (omega (arith, h)) (omega (arith, under, h))) own
        ];
  }

  pub reached_later : (i j m : ℕ) → 0 < length front → i ≤ j → j ≤ length part → (0 < m → j ≡ i)
      → ((k : ℕ) → i ≤ k → k < j → BeginsApart part front k)
      → IsReached (a ++ take i part) (drop i part ++ back) front tail m
      → IsReached (a ++ take j part) (drop j part ++ back) front tail m
  reached_later i j m some after within kept apart r = elim (cases_lt 0 m) [
    | inl more ↦ subst (λ k. IsReached (a ++ take k part) (drop k part ++ back) front tail m) (sym (kept more)) r
    | inr none ↦
        let zero_m : m ≡ 0 = omega (arith, none) in
        subst (IsReached (a ++ take j part) (drop j part ++ back) front tail) (sym zero_m)
        (reached_skipped i j some within apart (subst (IsReached (a ++ take i part) (drop i part ++ back) front tail) zero_m r) after)
  ]

  pub found_in_part : (i n : ℕ) → i ≤ length part → n ≡ length a + i - length front
      → IsReached (a ++ take i part) (drop i part ++ back) front tail (length front) → take (length tail) (drop i part ++ back) ≡ tail
      → IsFirstIndex ((a ++ part) ++ back) (front ++ tail) 0 n
  found_in_part i n within same r b =
      let count : length (a ++ take i part) - length front ≡ n =
      omega (arith, same, length-append a (take i part), length-take-le i part within) in
      subst (λ t. IsFirstIndex t (front ++ tail) 0 n) (text_at i)
      (subst (IsFirstIndex ((a ++ take i part) ++ (drop i part ++ back)) (front ++ tail) 0) count
      (reached_all (a ++ take i part) (drop i part ++ back) front tail r b))

  pub reached_len : (i m : ℕ) → i ≤ length part → IsReached (a ++ take i part) (drop i part ++ back) front tail m → m ≤ length a + i
  reached_len i m within r =
      omega (arith, front_len front (a ++ take i part) m r.ends, length-append a (take i part), length-take-le i part within)

  pub none_in_part : (i m : ℕ) → i ≡ length part → IsReached (a ++ take i part) (drop i part ++ back) front tail m
      → EndsWithFront (a ++ part) front m × NoneBelow ((a ++ part) ++ back) (front ++ tail) (length a + length part - m)
  none_in_part i m end r =
      let all : take i part ≡ part = take_all i part (omega (arith, end)) in (
        subst (λ t. EndsWithFront (a ++ t) front m) all r.ends,
        λ k below there. r.none k (omega (arith, below, ap length all, length-append a (take i part)))
            (subst (λ t. OccursAt t (front ++ tail) k) (sym (text_at i)) there),
      )

pub reached_first : (part back front tail : List ℕ) (m : ℕ) → m ≤ length front
    → IsReached (take m front ++ take 0 part) (drop 0 part ++ back) front tail m
reached_first part back front tail m within = record {
  ends = record { before = []; within = within; ends = sym (append-nil (take m front)) };
  none = λ k below there. absurd (omega (arith, below, length-append (take m front) (take 0 part), length-take-le m front within));
}

-- the units of `u` from index `begin` on are `seen` and `x`: what is left of them from where a front of `seen` begins
pub left_after : (seen front x u : List ℕ) (begin m n : ℕ) → n ≡ length seen → EndsWithFront seen front m → seen ++ x ≡ drop begin u → begin ≤ length u
    → (take m front ++ x ≡ drop (begin + (n - m)) u) × (begin + (n - m) ≤ length u)
left_after seen front x u begin m n count e whole within =
    let long : length e.before ≡ n - m =
    omega (arith, count, ap length e.ends, length-append e.before (take m front), length-take-le m front e.within) in (
      rest_of_part e.before (take m front ++ x) u begin (n - m)
          (sym (append_assoc e.before (take m front) x) ∙ ap (λ t. t ++ x) e.ends ∙ whole) long,
      omega (
        arith,
        within,
        long,
        ap length e.ends,
        ap length whole,
        length-append e.before (take m front),
        length-append seen x,
        length-drop begin u,
      ),
    )

-- a part `block` of a text, and the units `back` after it
module _ (block back front tail : List ℕ) where
  cut_at : (n : ℕ) → take n block ++ (drop n block ++ back) ≡ block ++ back
  cut_at n = sym (append_assoc (take n block) (drop n block) back) ∙ ap (λ t. t ++ back) (take-append-drop n block)

  -- the first `from` units of the block end with the first `m` of `front`
  module _ (from m : ℕ) (within : from ≤ length block) (e : EndsWithFront (take from block) front m) where
    abbrev pub part : List ℕ
    part = take (length block - from) (drop from block)

    pub matched_before : m ≤ from
    matched_before = omega (arith, front_len front (take from block) m e, length-take-le from block within)

    -- the units of the block and after it, from where these begin
    left_of_block : ((take m front ++ part) ++ back ≡ drop (from - m) (block ++ back)) × (from - m ≤ length (block ++ back))
    left_of_block =
        let count = length-take-le from block within in
        let zero_more : 0 + (from - m) ≡ from - m = omega arith in
        let left = left_after (take from block) front (drop from block ++ back) (block ++ back) 0 m from (sym count) e (cut_at from) (omega arith) in (
          append_assoc (take m front) part back
              ∙ ap (λ t. take m front ++ (t ++ back)) (take_all (length block - from) (drop from block) (omega (arith, length-drop from block)))
              ∙ left.0 ∙ ap (λ n. drop n (block ++ back)) zero_more,
          omega (arith, left.1, zero_more),
        )

    -- what is found from there on
    pub first_from_there : (end : ℕ) → length front ≤ m + end → IsFirstIndex ((take m front ++ part) ++ back) (front ++ tail) 0 (m + end - length front)
        → IsFirstIndex (block ++ back) (front ++ tail) (from - m) (from + end - length front)
    first_from_there end long f =
        let n = m + end - length front in
        let same : from - m + n ≡ from + end - length front = omega (arith, long, matched_before) in
        subst (IsFirstIndex (block ++ back) (front ++ tail) (from - m)) same
        (first_of_rest (block ++ back) (front ++ tail) (from - m) left_of_block.1 n
        (subst (λ t. IsFirstIndex t (front ++ tail) 0 n) left_of_block.0 f))

    pub none_from_there : (left : ℕ)
        → ((k : ℕ) → k < m + length part - left → ¬ (OccursAt ((take m front ++ part) ++ back) (front ++ tail) k))
        → NoneBetween (block ++ back) (front ++ tail) (from - m) (length block - left)
    none_from_there left none k after below there =
        none (k - (from - m))
        (omega (arith, after, below, matched_before, within, length-take (length block - from) (drop from block), length-drop from block))
        (subst (λ t. OccursAt t (front ++ tail) (k - (from - m))) (sym left_of_block.0)
        (occurs_in_rest (block ++ back) (front ++ tail) (from - m) left_of_block.1 k after there))

  -- an occurrence whose front ends before index `to`, and the longest border `b` of that
  module _ (to k b : ℕ) (within : to ≤ length block) (ends : k + length front ≡ to) (there : OccursAt (block ++ back) (front ++ tail) k)
      (longest : IsLongestFront (drop 1 (take (length front) front)) front b) where
    whole_end : EndsWithFront (take to block) front (length front)
    whole_end =
        occurs_end (take to block) (drop to block ++ back) front tail k (length front) (ends ∙ sym (length-take-le to block within)) (omega arith)
        (subst (λ t. OccursAt t (front ++ tail) k) (sym (cut_at to)) there)

    pub border_at_end : EndsWithFront (take to block) front b
    border_at_end = border_of_end (take to block) (drop to block ++ back) front tail b whole_end longest

    pub last_at_end : 0 < length front → IsLastBelow (block ++ back) (front ++ tail) (to - b) k
    last_at_end some =
        let count = length-take-le to block within in (
          there,
          omega (arith, ends, border_shorter front (length front) b some longest),
          λ j after below other. none_before_border (take to block) (drop to block ++ back) front tail b j whole_end longest
              (omega (arith, ends, count, after)) (omega (arith, count, below)) (subst (λ t. OccursAt t (front ++ tail) j) (sym (cut_at to)) other),
        )
