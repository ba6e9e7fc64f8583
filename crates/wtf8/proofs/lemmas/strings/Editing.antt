-- Bytes with others in their middle: the gap, and the form that is written there.
use Rattle.wtf8.proofs.Common.{◌≡◌, ℕ, ◌+◌, ◌≤◌, ◌∙◌, List, [], ◌++◌, length, take, drop, arith, ap, sym, subst, refl, append_assoc, append-nil}
use Rattle.wtf8.proofs.Common.{take_at, drop_at, drop-drop, drop_all, length-take-le, length-append, IsForm, All, IsUnit, All-drop, take-append-drop}
use Rattle.wtf8.proofs.Common.{◌*◌, units, bytes, form_of, IsWellFormed, MeetsAsPair}
use Rattle.wtf8.proofs.Common.{Option, Some, None, IfSome, option_to_list, All-nil, All-cons, Result, Ok, Err, OnOk, OnErr, IsOk, UnitString}
use Rattle.wtf8.proofs.Common.{KeepsContents, FitWithin, AreScalarTo, vec_capacity, on_ok_weaker, on_err_weaker, well_formed_of, bytes-injective}
use Rattle.wtf8.proofs.Common.{◌∷◌, ◌-◌, encoding, IsLead, IsTrail, take_all}
use Rattle.std.proofs.lemmas.Slice.{put_mid-paste}
use Rattle.std.specs.declared.vec.Vec.{Vec}
use borrow.Rule.Slice.PartMut.{put_mid}
use Rattle.wtf8.specs.Editing.{spliced}
use Rattle.wtf8.specs.private.EncodedBytes.{BecomesOrKeeps}
use Rattle.wtf8.proofs.lemmas.codec.Encoding.{bytes-append, bytes-pushed, length-surrogate}
use Rattle.wtf8.specs.private.Cuts.{WritesForm, CutsBefore, CutsAfter}
use Rattle.wtf8.proofs.lemmas.codec.Readings.{form_append-unpaired, lists_have_lengths, same_form, units_from_form, IsWellFormed-equal_bytes}
use Rattle.wtf8.proofs.lemmas.lanes.Moves.{paste_is}
use Rattle.wtf8.proofs.lemmas.strings.Concatenation.{one_form, units_read}
use Rattle.wtf8.proofs.lemmas.strings.ExtendedForms.{all_back, beginning_of_form, scalar_to-append, scalar_to-front}
use Rattle.wtf8.proofs.lemmas.strings.Positions.{cut_by}
use Rattle.std.proofs.lemmas.List.{places, same_lists}
use Rattle.wtf8.proofs.lemmas.lanes.Entries.{get_of}

-- Strings less a surrogate at an end.

pub after_trail : {w : List ℕ} (h : IsWellFormed w) (t : ℕ) (r : List ℕ) → IsTrail t → h.points ≡ t ∷ r
    → (3 ≤ length w) × ((rest : IsWellFormed (drop 3 w)) × (rest.points ≡ r))
after_trail h t r trail e =
    let three = length-surrogate t (omega (arith, trail), omega (arith, trail)) in
    let cut = cut_by h (t ∷ []) r 3 e (omega (arith, length-append (encoding t) [], three)) in (cut.within, (cut.after, cut.after_points))

pub before_lead : {w : List ℕ} (h : IsWellFormed w) (f : List ℕ) (l : ℕ) → IsLead l → h.points ≡ f ++ l ∷ []
    → (3 ≤ length w) × ((front : IsWellFormed (take (length w - 3) w)) × (front.points ≡ f))
before_lead {w} h f l lead e =
    let three = length-surrogate l (omega (arith, lead), omega (arith, lead)) in
    let size : length (bytes f) + 3 ≡ length w =
    omega (arith, ap length h.encoded, ap (λ d. length (bytes d)) e, ap length (bytes-pushed f l), length-append {A = ℕ}) in
    let cut = cut_by h f (l ∷ []) (length w - 3) e (omega (arith, size)) in (omega (arith, size), (cut.before, cut.before_points))

-- Bytes written over others.

pub placed : (now new piece : List ℕ) (at n : ℕ) → new ≡ piece → length piece ≡ n → at + n ≤ length now
    → put_mid at (at + n - at) now new ≡ take at now ++ (piece ++ drop (at + length piece) now)
placed now new piece at n e size fits = grind (arith, put_mid-paste, paste_is, take_all)

-- Writing the form of a list of units, part by part.

-- nothing is written yet
pub writes_none : (old : List ℕ) (at : ℕ) (v : List ℕ) → WritesForm old at v 0 old at
writes_none old at v = grind (arith, take-append-drop)

module _ {old now : List ℕ} {at to read : ℕ} {v : List ℕ} (u : All IsUnit v) (m : WritesForm old at v read now to)
    (room : (w : List ℕ) → IsForm w v → at + length w ≤ length old) (piece : List ℕ) (n : ℕ)
    (form : (w : List ℕ) → IsForm w (drop n (drop read v)) → IsForm (piece ++ w) (drop read v)) where
  more_form : (w : List ℕ) → IsForm w (drop (read + n) v) → IsForm ((m.front ++ piece) ++ w) v
  more_form w f = subst (λ z. IsForm z v) (sym (append_assoc m.front piece w))
      (m.rest (piece ++ w) (form w (subst (IsForm w) (sym (drop-drop n read v)) f)))

  -- there is room for one more part
  pub room_for_piece : to + length piece ≤ length old
  room_for_piece =
      let last = one_form (drop (read + n) v) (All-drop IsUnit (read + n) v u) in
      omega (arith, room ((m.front ++ piece) ++ last.one) (more_form last.one last.has), length-append {A = ℕ})

  pub writes_more : {new : List ℕ} → read + n ≤ length v → new ≡ take to now ++ (piece ++ drop (to + length piece) now)
      → WritesForm old at v (read + n) new (to + length piece)
  writes_more {new} within e =
      let base : length (take at old) ≡ at = length-take-le at old (omega (arith, room_for_piece, m.end)) in
      let size : length (take at old ++ m.front) ≡ to = omega (arith, length-append (take at old) m.front, base, m.end) in
      let parts : now ≡ (take at old ++ m.front) ++ drop to old = m.items ∙ sym (append_assoc (take at old) m.front (drop to old)) in
      let kept : take to now ≡ take at old ++ m.front = ap (take to) parts ∙ take_at (take at old ++ m.front) (drop to old) to size in
      let later : drop to now ≡ drop to old = ap (drop to) parts ∙ drop_at (take at old ++ m.front) (drop to old) to size in
      let last : drop (to + length piece) now ≡ drop (to + length piece) old =
      sym (drop-drop (length piece) to now) ∙ (ap (drop (length piece)) later ∙ drop-drop (length piece) to old) in
      record {
        within = within;
        front = m.front ++ piece;
        end = omega (arith, length-append m.front piece, m.end);
        items = e ∙ (ap (λ k. k ++ (piece ++ drop (to + length piece) now)) kept
            ∙ (ap (λ l. (take at old ++ m.front) ++ (piece ++ l)) last
            ∙ (append_assoc (take at old) m.front (piece ++ drop (to + length piece) old)
            ∙ ap (λ x. take at old ++ x) (sym (append_assoc m.front piece (drop (to + length piece) old))))));
        rest = more_form;
      }

-- all is written
pub written : {old now : List ℕ} {at to read : ℕ} {v : List ℕ} → WritesForm old at v read now to → length v ≤ read → (w : List ℕ)
    → IsForm w v → now ≡ take at old ++ (w ++ drop (at + length w) old)
written {old} {now} {at} {to} {read} {v} m all w f =
    let none : IsForm [] (drop read v) = record {
      points = [];
      reads = record { clean = tt; same_units = sym (drop_all read v all) };
      encoded = refl;
    } in
    let same : m.front ≡ w = sym (append-nil m.front) ∙ same_form (m.front ++ []) w v (m.rest [] none) f in
    m.items ∙ (ap (λ k. take at old ++ (m.front ++ drop k old)) (m.end ∙ ap (λ x. at + length x) same)
    ∙ ap (λ x. take at old ++ (x ++ drop (at + length w) old)) same)

-- Three lists written into a gap, one after the other.

pub three_written : (old g x y z : List ℕ) {s1 s2 s3 : List ℕ} (begin end at2 at3 n : ℕ) → begin ≤ length old
    → take begin g ≡ take begin old → drop (begin + n) g ≡ drop end old
    → at2 ≡ begin + length x → at3 ≡ at2 + length y → begin + n ≡ at3 + length z
    → s1 ≡ take begin g ++ (x ++ drop (begin + length x) g)
    → s2 ≡ take at2 s1 ++ (y ++ drop (at2 + length y) s1)
    → s3 ≡ take at3 s2 ++ (z ++ drop (at3 + length z) s2)
    → s3 ≡ take begin old ++ ((x ++ (y ++ z)) ++ drop end old)
three_written old g x y z {s1} {s2} {s3} begin end at2 at3 n within front back e2 e3 all h1 h2 h3 =
    same_lists _ _ (grind (arith, places, ap length h1, ap length h2, ap length h3, ap length back, ap length front))
    (λ k d l. grind (arith, places, get_of h3 k d, get_of h2 k d, get_of h1 k d, get_of front k d, get_of back (k - (begin + n)) d))

-- The length of a form, and forms of three lists, one after the other.

pub encoded_bound : {v : List ℕ} {n : ℕ} → All IsUnit v → ((w : List ℕ) → IsForm w v → n ≡ length w) → n ≤ 3 * length v
encoded_bound {v} {n} u is =
    let f = one_form v u in
    omega (arith, is f.one f.has, ap length f.has.encoded, ap length f.has.reads.same_units, (lists_have_lengths f.has.points).units_most)

-- the form of a whole that is divided where no pair is
pub record ThreeForms (m a b c : List ℕ) : Type 0 where
  pub first : List ℕ
  pub second : List ℕ
  pub third : List ℕ
  pub first_form : IsForm first a
  pub second_form : IsForm second b
  pub third_form : IsForm third c
  pub joined : first ++ (second ++ third) ≡ m

pub three_forms : {m u : List ℕ} (a b c : List ℕ) → IsForm m u → a ++ (b ++ c) ≡ u → ¬ (MeetsAsPair a (b ++ c)) → ¬ (MeetsAsPair b c)
    → ThreeForms m a b c
three_forms {m} {u} a b c f e n k =
    let whole : IsForm m (a ++ (b ++ c)) = subst (IsForm m) (sym e) f in
    let all = units_read whole.points (a ++ (b ++ c)) whole.reads in
    let x = beginning_of_form a (b ++ c) m whole in
    let later = all_back a (b ++ c) all in
    let rest = one_form (b ++ c) later in
    let y = beginning_of_form b c rest.one rest.has in
    let z = one_form c (all_back b c later) in
    record {
      first = x.whole;
      second = y.whole;
      third = z.one;
      first_form = x.form;
      second_form = y.form;
      third_form = z.has;
      joined = same_form (x.whole ++ (y.whole ++ z.one)) m (a ++ (b ++ c))
          (form_append-unpaired x.whole (y.whole ++ z.one) a (b ++ c) x.form (form_append-unpaired y.whole z.one b c y.form z.has k) n)
          whole;
    }

-- The form of the new units between two cuts.

pub edited : {c w u m : List ℕ} {begin end p q : ℕ} {head tail : List ℕ} (h : IsWellFormed w) → h.points ≡ c → units c ≡ u
    → CutsBefore c begin p head → CutsAfter c end q tail → (v : List ℕ) → IsForm m (head ++ (v ++ tail))
    → IsForm (take p w ++ (m ++ drop q w)) (spliced u begin end v)
edited {c} {w} {u} {m} {begin} {end} {p} {q} {head} {tail} h e same l r v f =
    let left : IsForm (take p w) (units l.front) = form_of (cut_by h l.front l.back p (e ∙ l.joined) l.front_len).before in
    let right : IsForm (drop q w) (units r.back) =
    let cut = (cut_by h r.front r.back q (e ∙ r.joined) r.front_len) in
    record { points = r.back; reads = record { clean = cut.after.clean; same_units = refl }; encoded = cut.after.encoded } in
    let middle = head ++ (v ++ tail) in
    let back : IsForm (m ++ drop q w) (middle ++ units r.back) =
    form_append-unpaired m (drop q w) middle (units r.back) f right
    (λ x. r.apart (head ++ v) (subst (λ z. MeetsAsPair z (units r.back)) (sym (append_assoc head v tail)) x)) in
    let all : IsForm (take p w ++ (m ++ drop q w)) (units l.front ++ (middle ++ units r.back)) =
    form_append-unpaired (take p w) (m ++ drop q w) (units l.front) (middle ++ units r.back) left back
    (λ x. l.apart ((v ++ tail) ++ units r.back)
    (subst (MeetsAsPair (units l.front)) (append_assoc head (v ++ tail) (units r.back)) x)) in
    let joined : units l.front ++ (middle ++ units r.back) ≡ spliced u begin end v =
    ap (λ z. units l.front ++ z) (append_assoc head (v ++ tail) (units r.back))
    ∙ (sym (append_assoc (units l.front) head ((v ++ tail) ++ units r.back))
    ∙ (ap (λ z. z ++ ((v ++ tail) ++ units r.back)) (l.kept ∙ ap (take begin) same)
    ∙ ap (λ z. take begin u ++ z) (append_assoc v tail (units r.back) ∙ ap (λ z. v ++ z) (r.kept ∙ ap (drop end) same)))) in
    subst (IsForm (take p w ++ (m ++ drop q w))) joined all

-- A string after its middle was replaced, or memory was refused.

-- a surrogate that is kept beside the new units is a unit
pub unit_of_surrogate : (o : Option ℕ) → IfSome o (λ p. p ≤ 0xFFFF) → All IsUnit (option_to_list o)
unit_of_surrogate None h = All-nil IsUnit
unit_of_surrogate (Some p) h = All-cons IsUnit p [] h (All-nil IsUnit)

pub some_weaker : {P Q : ℕ → Type 0} (o : Option ℕ) → ((p : ℕ) → P p → Q p) → IfSome o P → IfSome o Q
some_weaker None f h = tt
some_weaker (Some p) f h = f p h

module _ {T E Z : Type 0} {b n : Vec ℕ Z} {r : Result T E} {whole u : List ℕ} (f : IsForm whole u) (g : BecomesOrKeeps b whole n r) where
  pub units_replaced : (k : IsWellFormed n.items) → OnOk r (units k.points ≡ u)
  units_replaced k = on_ok_weaker r (λ h. units_from_form n.items (units k.points) u (form_of k) (rw h f)) g.ok

  pub unchanged : (was old new : UnitString) → was ≡ old → was.bytes ≡ b.items → new.bytes ≡ n.items → OnErr r (KeepsContents old new)
  unchanged was old new s e c = on_err_weaker r (λ h.
      let same = c ∙ (h ∙ (sym e ∙ ap (λ (t : UnitString). t.bytes) s)) in
      let form = subst (λ w. IsForm w old.units) (sym same) old.form in
      record { units = units_from_form new.bytes new.units old.units new.form form; bytes = same }) g.err

  pub room_for_form : (capacity : ℕ) → capacity ≡ vec_capacity b → FitWithin u 0 capacity → IsOk r
  room_for_form capacity e fit = g.room (omega (arith, fit.within, ap length (same_form whole fit.whole u f fit.form), e))

  -- no surrogate begins before byte `k` if none does in the bytes that stay at the front
  pub utf8_prefix_after_edit : (h : IsWellFormed b.items) (front back rest : List ℕ) (j k : ℕ) → h.points ≡ front ++ back
      → AreScalarTo j h.points → k ≤ j → k ≤ length (bytes front) → whole ≡ bytes front ++ bytes rest
      → (x : IsWellFormed n.items) × (AreScalarTo k x.points × Unit {0})
  utf8_prefix_after_edit h front back rest j k e s l m same = by r g.ok g.err
    where
      now : IsWellFormed whole
      now = well_formed_of f

      joined : now.points ≡ front ++ rest
      joined = bytes-injective now.points (front ++ rest) (now.encoded ∙ (same ∙ sym (bytes-append front rest)))

      scalar : AreScalarTo k now.points
      scalar = subst (AreScalarTo k) (sym joined) (scalar_to-append k front rest
          (scalar_to-front j k front back (subst (AreScalarTo j) e s) l) (λ x. absurd (omega (arith, x, m))))

      by : (r : Result T E) → OnOk r (n.items ≡ whole) → OnErr r (n.items ≡ b.items)
          → (x : IsWellFormed n.items) × (AreScalarTo k x.points × Unit {0})
      by (Ok _) ok err = (IsWellFormed-equal_bytes now ok, (scalar, tt))
      by (Err _) ok err = (IsWellFormed-equal_bytes h err, ((λ p q z d o. s p q z d (omega (arith, l, o))), tt))
