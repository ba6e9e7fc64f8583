-- Marks: byte positions with the number of units before them.
use Rattle.wtf8.proofs.Common.{◌≡◌, ◌+◌, ◌<◌, ◌≤◌, ℕ, List, [], ◌∷◌, ◌++◌, length, take, refl, sym, ap, ◌∙◌, subst, arith, well_formed_of, length-append}
use Rattle.wtf8.proofs.Common.{append_assoc, take-append-drop, bytes-injective, units, bytes, ◌*◌, append-nil, encoding, form_of, Splits, IsWellFormed, IsForm}
use Rattle.wtf8.proofs.Common.{UnitCursor, glue, ◌-◌, drop, length-take-le, AreAscii, take_all, length-drop, get_or, IsLead, IsTrail, IsBoundary, IsMiddle, IsFront}
use Rattle.wtf8.proofs.Common.{inl, inr, cases_lt, take_at, drop_at, drop-append-le, All, IsUnit, MeetsAsPair, get_or-append_seam, DividesPair}
use Rattle.std.proofs.lemmas.List.{take-append-le}
use Rattle.wtf8.specs.PositionLaws.{EqualBoundariesHaveEqualFronts, BoundariesAreInOneOrder, BoundariesDivideNoPair}
use Rattle.wtf8.specs.UnitMark.{IsMark, RoundsDownTo, EqualCountsAreMarks, MarksStay, MarksDivideNoPair, EqualMarksHaveEqualUnits, MarksAreInOneOrder}
use Rattle.wtf8.specs.UnitMark.{MarksAreFoundAgain, BoundariesAreMarks, MarksStayInFront}
use Rattle.wtf8.proofs.lemmas.codec.Encoding.{bytes-append, bytes-pushed, encoding_cases}
use Rattle.wtf8.proofs.lemmas.codec.Readings.{units-append, units-pushed, lists_have_lengths, units_one, units_two, same_form}
use Rattle.wtf8.proofs.lemmas.codec.Readings.{same_reading, reads_same, meets_by, form_append-unpaired}
use Rattle.wtf8.proofs.lemmas.strings.Concatenation.{reads-glue, one_form, units_read}
use Rattle.wtf8.proofs.lemmas.strings.ExtendedForms.{all_back}
use Rattle.wtf8.proofs.lemmas.strings.Positions.{CutsUnits, PointsAbout}
use Rattle.wtf8.proofs.lemmas.strings.Positions.{cut_by, points_after, boundary_of, same_splits, shorter_is_prefix, front_unique}
use Rattle.wtf8.proofs.lemmas.units.UnitCuts.{undivided_from_cut, divided_from_cut, divides_none, Divided}
use Rattle.wtf8.proofs.lemmas.codec.Scalars.{IsKnownForm-ascii, units-ascii}
use Rattle.std.proofs.lemmas.Simd.{Each1-chunk}

-- a cut between code points is a mark
pub mark_at_cut : {w : List ℕ} (h : IsWellFormed w) {k n : ℕ} → CutsUnits h.points n k → IsMark w (units h.points) k n
mark_at_cut h {k} at =
    let x = undivided_from_cut at in
    let cut = cut_by h x.front x.back k x.joined x.front_len in
    record {
      position_within = cut.within;
      units_within = x.within;
      before =
          record { points = x.front; reads = record { clean = cut.before.clean; same_units = sym x.kept }; encoded = cut.before.encoded };
      after = record { points = x.back; reads = record { clean = cut.after.clean; same_units = sym x.after }; encoded = cut.after.encoded };
    }

mark_of : {w u : List ℕ} (f : IsForm w u) {k n : ℕ} → CutsUnits f.points n k → IsMark w u k n
mark_of {w} f {k} {n} x = subst (λ v. IsMark w v k n) f.reads.same_units (mark_at_cut (well_formed_of f) x)

-- a mark is a cut between code points, since bytes determine these
abbrev pub cut_of : {w u : List ℕ} (h : IsWellFormed w) {k n : ℕ} → IsMark w u k n → CutsUnits h.points n k
cut_of {w} {u} h {k} {n} m =
    let front = m.before.points in
    let back = m.after.points in
    let whole : bytes (front ++ back) ≡ w = bytes-append front back
    ∙ (ap (λ v. v ++ bytes back) m.before.encoded ∙ (ap (λ v. take k w ++ v) m.after.encoded ∙ take-append-drop k w)) in
    record {
      front = front;
      back = back;
      joined = bytes-injective h.points (front ++ back) (h.encoded ∙ sym whole);
      front_len = ap length m.before.encoded ∙ length-take-le k w m.position_within;
      counted = ap length m.before.reads.same_units ∙ length-take-le n u m.units_within;
    }

-- a cursor of the part after a mark, as one of the whole string
pub points_from_mark : {w v u : List ℕ} (h : IsWellFormed w) (rest : IsWellFormed v) {k m n : ℕ} {cursor : UnitCursor}
    → IsMark w u k m → v ≡ drop k w → m ≤ n → PointsAbout rest.points (n - m) cursor
    → PointsAbout h.points n (record { position = k + cursor.position; units = m + cursor.units })
points_from_mark h rest {k} mark e l y =
    let x = cut_of h mark in
    let after = points_after h rest x.front x.back k x.joined x.front_len e in
    record {
      cut = record {
        front = x.front ++ y.cut.front;
        back = y.cut.back;
        joined = x.joined ∙ (ap (λ b. x.front ++ b) (sym after ∙ y.cut.joined) ∙ sym (append_assoc x.front y.cut.front y.cut.back));
        front_len = simp (bytes-append, length-append, x.front_len, y.cut.front_len);
        counted = simp (units-append, length-append, x.counted, y.cut.counted);
      };
      not_beyond = omega (arith, y.not_beyond, l);
      holds = λ p back g. omega (arith, y.holds p back g, l);
    }

-- a mark is at a code point boundary
pub boundary_of_mark : {w : List ℕ} (h : IsWellFormed w) {k n : ℕ} → IsMark w (units h.points) k n → IsBoundary (units h.points) k
boundary_of_mark h {k} m = let x = cut_of h m in boundary_of h x.front x.back k x.joined x.front_len

-- a boundary after a mark is a mark, with the units between the two and those before
pub mark_after : {w : List ℕ} (h : IsWellFormed w) {k n end : ℕ} (v : List ℕ) → IsMark w (units h.points) k n
    → IsMiddle (units h.points) k end v → IsMark w (units h.points) end (n + length v)
mark_after h {k} v m x =
    let own = cut_of h m in
    let splits = (cut_by h own.front own.back k own.joined own.front_len).splits in
    mark_at_cut h (record {
      front = x.front ++ x.middle;
      back = x.back;
      joined = same_reading h.points ((x.front ++ x.middle) ++ x.back) h.clean x.ends.reads.clean (sym x.ends.reads.same_units);
      front_len = x.ends.front_len;
      counted = omega (
        arith,
        ap length (units-append x.front x.middle),
        length-append (units x.front) (units x.middle),
        ap (λ f. length (units f)) ((same_splits (units h.points) k own.front own.back x.front (x.middle ++ x.back) splits x.begins).0),
        own.counted,
        ap length x.same_units,
      );
    })

-- The laws of marks.

-- a cut at a mark divides no pair
pub mark_divides_none : MarksDivideNoPair
mark_divides_none w u k n f m =
    subst (λ v. ¬ (DividesPair v n)) f.reads.same_units (divides_none f.reads.clean (undivided_from_cut (cut_of (well_formed_of f) m)))

-- a mark within a front is a mark of the front: no pair is divided there
mark_in_front : (w x u v : List ℕ) (k n : ℕ) → IsForm w u → IsForm x (u ++ v) → n ≤ length u → IsMark x (u ++ v) k n → IsMark w u k n
mark_in_front w x u v k n f g h m =
    let first : take n (u ++ v) ≡ take n u = take-append-le n u v h in
    let others : drop n (u ++ v) ≡ drop n u ++ v = drop-append-le n u v h in
    let before : IsForm (take k x) (take n u) = subst (IsForm (take k x)) first m.before in
    let rest = one_form (drop n u)
    (all_back (take n u) (drop n u) (subst (All IsUnit) (sym (take-append-drop n u)) (units_read f.points u f.reads))) in
    let apart : ¬ (MeetsAsPair (take n u) (drop n u)) = λ p. mark_divides_none x (u ++ v) k n g m
    (meets_by p.front (p.rest ++ v) p.lead p.trail p.is_lead p.is_trail (first ∙ p.ends) (others ∙ ap (λ d. d ++ v) p.begins)) in
    let both = form_append-unpaired (take k x) rest.one (take n u) (drop n u) before rest.has apart in
    let whole : w ≡ take k x ++ rest.one =
    same_form w (take k x ++ rest.one) u f (subst (IsForm (take k x ++ rest.one)) (take-append-drop n u) both) in
    let long : length (take k x) ≡ k = length-take-le k x m.position_within in
    record {
      position_within = omega (arith, ap length whole, length-append (take k x) rest.one, long);
      units_within = h;
      before = subst (λ b. IsForm b (take n u)) (sym (ap (take k) whole ∙ take_at (take k x) rest.one k long)) before;
      after = subst (λ b. IsForm b (drop n u)) (sym (ap (drop k) whole ∙ drop_at (take k x) rest.one k long)) rest.has;
    }

pub marks_stay_in_front : MarksStayInFront
marks_stay_in_front w x u k m n g f l h mark = mark_in_front w x (take n u) (drop n u) k m f (subst (IsForm x) (sym (take-append-drop n u))
    g) (omega (arith, length-take-le n u h, l)) (subst (λ v. IsMark x v k m) (sym (take-append-drop n u)) mark)

-- the code points between two marks, by bytes and by units
between_marks : {w u : List ℕ} (f : IsForm w u) {k l m n : ℕ} → IsMark w u k m → IsMark w u l n → k ≤ l
    → (more : List ℕ) × (l ≡ k + length (bytes more)) × (n ≡ m + length (units more))
between_marks f x y h =
    let own = cut_of (well_formed_of f) x in
    let other = cut_of (well_formed_of f) y in
    let prefix = shorter_is_prefix own.front own.back other.front other.back
    (sym own.joined ∙ other.joined) (omega (arith, h, own.front_len, other.front_len)) in (
      prefix.more,
      grind (arith, bytes-append, length-append, own.front_len, other.front_len, prefix.joined),
      grind (arith, units-append, length-append, own.counted, other.counted, prefix.joined),
    )

-- marks have one order by positions and by numbers of units
pub marks_in_order : MarksAreInOneOrder
marks_in_order w u k l m n f x y = (
  λ h. omega (arith, (between_marks f x y h).2),
  λ h. elim (cases_lt l k) [
    | inl c ↦
        let b = between_marks f y x (omega (arith, c)) in
        absurd (omega (arith, h, c, b.1, b.2, (lists_have_lengths b.0).units_most))
    | inr c ↦ c
  ],
)

pub same_mark : EqualMarksHaveEqualUnits
same_mark w u k l m n f x y =
    let order = marks_in_order w u k l m n f x y in
    let turned = marks_in_order w u l k n m f y x in (
      λ e. omega (arith, order.0 (omega (arith, e)), turned.0 (omega (arith, e))),
      λ e. omega (arith, order.1 (omega (arith, e)), turned.1 (omega (arith, e))),
    )

pub mark_found_again : MarksAreFoundAgain
mark_found_again w u k l m n f x y found = elim found [
  | inl e ↦ sym ((same_mark w u k l m n f x y).1 (sym e))
  | inr d ↦ absurd (mark_divides_none w u k m f x d.1)
]

-- a boundary is a mark
pub boundary_is_mark : BoundariesAreMarks
boundary_is_mark w u v k f b = mark_of f (record {
  front = b.front;
  back = b.back;
  joined = reads_same f.reads b.splits.reads;
  front_len = b.splits.front_len;
  counted = ap length b.same_units;
})

-- the form of the units that a front is of
abbrev form_about : {u v : List ℕ} {k : ℕ} (b : IsFront u k v) → IsForm (bytes (b.front ++ b.back)) u
form_about b = record { points = b.front ++ b.back; reads = b.splits.reads; encoded = refl }

pub front_is_first_units : (u v : List ℕ) (k : ℕ) → IsFront u k v → v ≡ take (length v) u
front_is_first_units u v k b = grind (arith, units-append, take_at)

pub boundary_divides_none : BoundariesDivideNoPair
boundary_divides_none u v k b = mark_divides_none _ u k (length v) (form_about b) (boundary_is_mark _ u v k (form_about b) b)

pub boundaries_in_order : BoundariesAreInOneOrder
boundaries_in_order u v x k l a b = marks_in_order _ u k l (length v) (length x) (form_about a) (boundary_is_mark _ u v k (form_about a) a)
    (boundary_is_mark _ u x l (form_about a) b)

pub same_front : EqualBoundariesHaveEqualFronts
same_front u v x k l a b = (
  λ e. front_unique u l v x (subst (λ p. IsFront u p v) e a) b,
  λ e. (same_mark _ u k l (length v) (length x) (form_about a) (boundary_is_mark _ u v k (form_about a) a)
      (boundary_is_mark _ u x l (form_about a) b)).1 (ap length e),
)

-- the units on both sides of the division of a pair are its lead and its trail
pub divided_are_surrogates : (u : List ℕ) (n : ℕ) → DividesPair u n
    → (0 < n) × (n < length u) × IsLead (get_or u (n - 1) 0) × IsTrail (get_or u n 0)
divided_are_surrogates u n m =
    let inside : n < length u = omega (arith, ap length m.begins, length-drop n u) in
    let front : length (m.front ++ m.lead ∷ []) ≡ n = sym (ap length m.ends) ∙ length-take-le n u (omega (arith, inside)) in
    let whole : u ≡ (m.front ++ m.lead ∷ []) ++ m.trail ∷ m.rest = grind (arith, take-append-drop) in
    let long = length-append m.front (m.lead ∷ []) in
    let before : n - 1 ≡ length m.front = omega (arith, front) in
    let lead : get_or u (n - 1) 0 ≡ m.lead = grind (arith, append_assoc, get_or-append_seam) in
    let trail : get_or u n 0 ≡ m.trail = grind (arith, get_or-append_seam) in
    (omega (arith, front), inside, subst IsLead (sym lead) m.is_lead, subst IsTrail (sym trail) m.is_trail)

-- code points with equal numbers of bytes and units are ASCII
ascii_from_lengths : (c : List ℕ) → length (bytes c) ≡ length (units c) → AreAscii c
ascii_from_lengths [] e = tt
ascii_from_lengths (p ∷ c) e =
    let bound = (lists_have_lengths c).units_least in
    grind (arith, encoding_cases, units_one, units_two, length-append, ascii_from_lengths c)

-- a string with equal numbers of bytes and units is ASCII, and its units are its bytes
pub ascii_same : {w u : List ℕ} → IsForm w u → length w ≡ length u → AreAscii u × (w ≡ u)
ascii_same {w} {u} f e = grind (arith, ascii_from_lengths, units-ascii, same_form, IsKnownForm-ascii)

pub equal_counts : EqualCountsAreMarks
equal_counts w u k f e h =
    let same = ascii_same f e in
    let ascii_rest = subst AreAscii
    (take_all (length u - k) (drop k u) (omega (arith, length-drop k u))) (Each1-chunk (λ n. n < 0x80) k (length u - k) u same.0) in
    subst (λ v. IsMark v u k k) (sym same.1) (record {
      position_within = omega (arith, e, h);
      units_within = omega (arith, e, h);
      before = (IsKnownForm-ascii (take k u) (Each1-chunk (λ n. n < 0x80) 0 k u same.0)).form;
      after = (IsKnownForm-ascii (drop k u) ascii_rest).form;
    })

-- a boundary before a mark, and the mark that it is: a unit has at most three bytes
pub record MarkBefore (w u : List ℕ) (k n end between : ℕ) : Type 0 where
  pub fewer : between ≤ n
  pub mark : IsMark w u k (n - between)
  pub least : n - between ≤ k
  pub most : end ≤ k + 3 * between

pub mark_before : {w : List ℕ} (h : IsWellFormed w) {k n end : ℕ} (v : List ℕ) → IsMark w (units h.points) end n
    → IsMiddle (units h.points) k end v → MarkBefore w (units h.points) k n end (length v)
mark_before {w} h {k} {n} {end} v m x =
    let front = length (units x.front) in
    let own : IsMark w (units h.points) k front = mark_at_cut h (record {
      front = x.front;
      back = x.middle ++ x.back;
      joined = same_reading h.points (x.front ++ (x.middle ++ x.back)) h.clean x.begins.reads.clean (sym x.begins.reads.same_units);
      front_len = x.begins.front_len;
      counted = refl;
    }) in
    let whole : n ≡ front + length v =
    (same_mark w (units h.points) end end n (front + length v) (form_of h) m (mark_after h v own x)).0 refl in
    let between = lists_have_lengths x.middle in
    let before = lists_have_lengths x.front in
    let long = ap length (bytes-append x.front x.middle) ∙ length-append (bytes x.front) (bytes x.middle) in
    let same = ap length x.same_units in
    record {
      fewer = omega (arith, whole);
      mark = subst (IsMark w (units h.points) k) (omega (arith, whole)) own;
      least = omega (arith, whole, before.units_least, x.begins.front_len);
      most = omega (arith, long, same, between.units_most, x.begins.front_len, x.ends.front_len);
    }

-- the units before a mark are those that it counts
pub front_of_mark : {w u : List ℕ} (f : IsForm w u) {k n : ℕ} → IsMark w u k n → IsFront u k (take n u)
front_of_mark f {k} m =
    let x = cut_of (well_formed_of f) m in
    let splits = (cut_by (well_formed_of f) x.front x.back k x.joined x.front_len).splits in
    record {
      front = x.front;
      back = x.back;
      splits = subst (λ v. Splits v k x.front x.back) f.reads.same_units splits;
      same_units = m.before.reads.same_units;
    }

-- a pair that is divided one unit after a mark begins at the mark
pub divided_at_mark : {w u : List ℕ} (f : IsForm w u) {k m n : ℕ} → IsMark w u k m → m + 1 ≡ n → DividesPair u n
    → (p : ℕ) × Divided f.points n k p
divided_at_mark {w} {u} f {k} {m} {n} mark e pair = at_back x.back refl
  where
    x : CutsUnits f.points m k
    x = cut_of (well_formed_of f) mark

    inside : n < length u
    inside = (divided_are_surrogates u n pair).1

    own : DividesPair (units f.points) n
    own = subst (λ v. DividesPair v n) (sym f.reads.same_units) pair

    whole : (back : List ℕ) → x.back ≡ back → f.points ≡ x.front ++ back
    whole back same = x.joined ∙ ap (λ b. x.front ++ b) same

    at_back : (back : List ℕ) → x.back ≡ back → (p : ℕ) × Divided f.points n k p
    at_back [] none =
        let all = ap (λ c. length (units c)) (whole [] none ∙ append-nil x.front) in
        absurd (omega (arith, inside, e, x.counted, all, ap length f.reads.same_units))
    at_back (p ∷ rest) some = elim (cases_lt p 0x10000) [
      | inl small ↦
          let after : CutsUnits f.points n (k + length (encoding p)) = record {
            front = x.front ++ p ∷ [];
            back = rest;
            joined = whole (p ∷ rest) some ∙ sym (append_assoc x.front (p ∷ []) rest);
            front_len = grind (arith, bytes-pushed, length-append, x.front_len);
            counted = grind (arith, units-pushed, units_one, length-append, x.counted);
          } in
          absurd (divides_none f.reads.clean (undivided_from_cut after) own)
      | inr large ↦ (p, divided_from_cut x p rest some large e)
    ]

-- a number of units whose mark there is, is within the string
pub within_rounded : {w u : List ℕ} {k m n : ℕ} → IsMark w u k m → RoundsDownTo u n m → n ≤ length u
within_rounded {u} {n} mark last = elim last [
  | inl same ↦ omega (arith, same, mark.units_within)
  | inr less ↦ omega (arith, (divided_are_surrogates u n less.1).1)
]

-- joining changes no code point before the last
glue-append_left : (f b d : List ℕ) → 0 < length (units b) → glue (f ++ b) d ≡ f ++ glue b d
glue-append_left [] b d h = refl
glue-append_left (p ∷ []) [] d h = absurd (omega arith)
glue-append_left (p ∷ []) (q ∷ b) d h = refl
glue-append_left (p ∷ q ∷ f) b d h = ap (λ c. p ∷ c) (glue-append_left (q ∷ f) b d h)

pub marks_stay : MarksStay
marks_stay w x u v k n f g l m =
    let own = cut_of (well_formed_of f) m in
    let more = one_form v (all_back u v (units_read g.points (u ++ v) g.reads)) in
    let both : IsForm (bytes (glue f.points more.has.points)) (u ++ v) = grind (arith, reads-glue) in
    let units_len = ap length (ap units own.joined ∙ units-append own.front own.back) in
    let nonempty : 0 < length (units own.back) = grind (arith, length-append) in
    let joined : glue f.points more.has.points ≡ own.front ++ glue own.back more.has.points = grind (arith, glue-append_left) in
    subst (λ z. IsMark z (u ++ v) k n) (sym (same_form x (bytes (glue f.points more.has.points)) (u ++ v) g both)) (mark_of both
    (record { front = own.front; back = glue own.back more.has.points; joined = joined; front_len = own.front_len; counted = own.counted }))
