-- Appending code units to well-formed bytes: what holds before the first unit, after all of them, and after a refusal.
use Rattle.wtf8.proofs.Common.{◌≡◌, ◌-◌, ◌<◌, ◌≤◌, ℕ, Bool, false, IsTrue, List, [], ◌∷◌, ◌++◌, length, take, drop, get_or}
use Rattle.wtf8.proofs.Common.{Option, Some, None, IfSome, Result, Ok, Err, IsOk, refl, sym, ap, ◌∙◌, subst, arith, append-nil}
use Rattle.wtf8.proofs.Common.{append_assoc}
use Rattle.wtf8.proofs.Common.{HasRoomFor, KeepsContents, UnitString, inl, inr, Fits, w16, length-append, length-take, take-append-drop}
use Rattle.wtf8.proofs.Common.{take-take, take_at, All, All-from_get_or, false≢true, vec_capacity}
use Rattle.wtf8.proofs.Common.{IsUnit, IsLead, IsTrail, MeetsAsPair, units, pair, encoding, bytes, Reads, IsForm, IsWellFormed, form_of}
use Rattle.wtf8.proofs.Common.{AreScalar}
use Rattle.wtf8.proofs.Common.{AreScalarTo, FrontsFit, IsKnownForm, IsReadTo, ExtendsForm, ExtendsFormOrKeeps, glue}
use Rattle.std.specs.Prelude.{IfNone, OnOk, OnErr}
use Rattle.std.specs.declared.vec.Vec.{Vec}
use Rattle.wtf8.proofs.lemmas.codec.Encoding.{bytes-pushed, length-surrogate}
use Rattle.wtf8.proofs.lemmas.codec.Readings.{meets_by, same_form, same_reading, units_from_form, units_one}
use Rattle.wtf8.proofs.lemmas.codec.Readings.{clean-append}
use Rattle.wtf8.proofs.lemmas.codec.Readings.{IsWellFormed-equal_bytes, form-append, meets_or_not, unpaired-after_no_lead, units-append}
use Rattle.wtf8.proofs.lemmas.strings.Concatenation.{form-glue, form_meeting, lead_last, length-paired_bytes, meeting_bytes, one_form}
use Rattle.wtf8.proofs.lemmas.strings.Concatenation.{paired_bytes, units_read}
use Rattle.wtf8.proofs.lemmas.strings.ExtendedForms.{utf8_prefix_after_append, CompletedPair, CompletedPair-from_lead, all_back}
use Rattle.wtf8.proofs.lemmas.strings.ExtendedForms.{all_scalar, beginning_of_form, scalar_front_unpaired}
use Rattle.std.proofs.lemmas.List.{places, same_lists}
use Rattle.wtf8.proofs.lemmas.lanes.Entries.{get_of}

-- The first unit, and a lead before it.

-- the first unit alone
first_unit : (v : List ℕ) → 0 < length v → take 1 v ≡ get_or v 0 0 ∷ []
first_unit [] n = absurd (omega (arith, n))
first_unit (x ∷ v) n = refl

-- without a lead at the end no pair forms with units, and equal bytes have the same code points
pub lead_before_units : {w : List ℕ} (o : Option ℕ) {c : List ℕ} (v : List ℕ) (h : IsWellFormed w) → h.points ≡ c
    → IfNone o ((f : List ℕ) (l : ℕ) → IsLead l → c ≡ f ++ l ∷ [] → ⊥) → IfNone o (¬ (MeetsAsPair h.points v))
lead_before_units (Some l) v h e none = tt
lead_before_units None v h e none = λ m. none m.front m.lead m.is_lead (sym e ∙ m.ends)

-- the pair of a lead at the end and the first unit
pub completed_pair : {w : List ℕ} (o : Option ℕ) {l t : ℕ} (h : IsWellFormed w) → o ≡ Some l → IfSome o IsLead
    → IfSome o (λ l. (f : List ℕ) × (h.points ≡ f ++ l ∷ [])) → IsTrail t → CompletedPair w l t
completed_pair o {l} {t} h e lead last trail =
    let end = subst (λ o. IfSome o (λ l. (f : List ℕ) × (h.points ≡ f ++ l ∷ []))) e last in
    CompletedPair-from_lead h end.0 l t (subst (λ o. IfSome o IsLead) e lead) trail end.1

-- Before the first unit is encoded, or after it has completed a pair.

pub read_start : {w v : List ℕ} {known : Bool} (o : Option ℕ) (h : IsWellFormed w) → o ≡ None → IfNone o (¬ (MeetsAsPair h.points v))
    → (IsTrue known → AreScalar h.points) → IsReadTo w (units h.points) v 0 known
read_start {w} {v} {known} o h e none scalar = record {
  within = omega arith;
  divides_no_pair = λ m.
      let ends : units h.points ≡ m.front ++ m.lead ∷ [] = sym (append-nil (units h.points)) ∙ m.ends in
      let last = lead_last h.points m.front m.lead m.is_lead ends in
      subst (λ o. IfNone o (¬ (MeetsAsPair h.points v))) e none
      (meets_by last.0 m.rest m.lead m.trail m.is_lead m.is_trail last.1 m.begins);
  form = record {
    form = record {
      points = h.points;
      reads = record { clean = h.clean; same_units = sym (append-nil (units h.points)) };
      encoded = h.encoded;
    };
    scalar = scalar;
  };
}

pub read_after_pair : {w new v : List ℕ} {l : ℕ} (h : IsWellFormed w) → 0 < length v → IsTrail (get_or v 0 0)
    → CompletedPair w l (get_or v 0 0)
    → new ≡ take (length w - 3) w ++ encoding (pair l (get_or v 0 0)) → IsReadTo new (units h.points) v 1 false
read_after_pair {w} {new} {v} {l} h some trail done e =
    let t = get_or v 0 0 in
    let one : take 1 v ≡ t ∷ [] = first_unit v some in
    let form : IsForm new (units h.points ++ take 1 v) =
    rw (e, one, ← units_one t (omega (arith, trail))) (done.extends (units h.points) (form_of h)) in
    record {
      within = omega (arith, some);
      divides_no_pair = rw one (unpaired-after_no_lead (units h.points) t (λ k. omega (arith, k, trail)));
      form = record { form = form; scalar = λ k. absurd (false≢true k) };
    }

-- The form of the whole, and room for it.

pub are_units : (v : List ℕ) → ((i : ℕ) → Fits w16 (get_or v i 0)) → All IsUnit v
are_units v fits = All-from_get_or IsUnit v 0 (λ i _. omega (arith, (fits i).fits))

-- the form of the units of well-formed bytes followed by more units
abbrev pub whole_form : {w : List ℕ} (h : IsWellFormed w) (v : List ℕ) → All IsUnit v → List ℕ
whole_form h v u = bytes (glue h.points (one_form v u).has.points)

pub whole_form-is : {w : List ℕ} (h : IsWellFormed w) (v : List ℕ) (u : All IsUnit v) → IsForm (whole_form h v u) (units h.points ++ v)
whole_form-is h v u = form-glue _ (one_form v u).one (units h.points) v (form_of h) (one_form v u).has

pub whole_form-extends : {w : List ℕ} (h : IsWellFormed w) (v : List ℕ) (u : All IsUnit v) → ExtendsForm w (whole_form h v u) v
whole_form-extends {w} h v u a f =
    subst (λ b. IsForm (whole_form h v u) (b ++ v)) (units_from_form w (units h.points) a (form_of h) f) (whole_form-is h v u)

-- if the form of the whole fits, so does that of each front
pub fronts_fit : {w : List ℕ} (h : IsWellFormed w) (v : List ℕ) (u : All IsUnit v) (capacity : ℕ) → length (whole_form h v u) ≤ capacity
    → FrontsFit (units h.points) v capacity
fronts_fit h v u capacity fits n x form =
    let a = units h.points in
    let joined : a ++ v ≡ (a ++ take n v) ++ drop n v =
    ap (λ z. a ++ z) (sym (take-append-drop n v)) ∙ sym (append_assoc a (take n v) (drop n v)) in
    let front =
    beginning_of_form (a ++ take n v) (drop n v) (whole_form h v u) (subst (IsForm (whole_form h v u)) joined (whole_form-is h v u)) in
    omega (arith, front.within, ap length (same_form front.whole x (a ++ take n v) front.form form), fits)

module _ {T E Z : Type 0} (b n : Vec ℕ Z) {v : List ℕ} where
  -- all units were appended
  pub units_extended : (r : Result T E) (h : IsWellFormed b.items) (u : All IsUnit v) → IsOk r → IsForm n.items (units h.points ++ v)
      → vec_capacity b ≤ vec_capacity n → ExtendsFormOrKeeps b v n r
  units_extended (Ok x) h u ok form larger = record {
    whole = whole_form h v u;
    extends = whole_form-extends h v u;
    becomes = record {
      ok = same_form n.items (whole_form h v u) (units h.points ++ v) form (whole_form-is h v u);
      err = tt;
      room = λ _. refl;
      capacity = larger;
    };
  }
  units_extended (Err e) h u ok form larger = absurd (false≢true ok)

  -- memory was refused, and the bytes are as before
  pub units_refused : (r : Result T E) (h : IsWellFormed b.items) (u : All IsUnit v) → n.items ≡ b.items
      → (length (whole_form h v u) ≤ vec_capacity b → IsOk r) → ¬ (IsOk r) → vec_capacity b ≤ vec_capacity n → ExtendsFormOrKeeps b v n r
  units_refused (Ok x) h u same room refused larger = absurd (refused refl)
  units_refused (Err e) h u same room refused larger = record {
    whole = whole_form h v u;
    extends = whole_form-extends h v u;
    becomes = record { ok = tt; err = same; room = room; capacity = larger };
  }

module _ {T E Z : Type 0} {b m : Vec ℕ Z} where
  -- after units were appended or refused the bytes are well-formed, with a UTF-8 prefix of `n` bytes
  pub utf8_prefix_after_units : {v : List ℕ} (r : Result T E) (k n : ℕ) (h : IsWellFormed b.items) → All IsUnit v → AreScalarTo k h.points
      → n ≤ k → (length b.items < n → OnOk r ((c : List ℕ) → Reads c v → AreScalar c)) → ExtendsFormOrKeeps b v m r
      → (x : IsWellFormed m.items) × (AreScalarTo n x.points × Unit {0})
  utf8_prefix_after_units {v} (Ok y) k n h u s l t g =
      let reads = (one_form v u).has.reads in
      utf8_prefix_after_append (Ok y) (one_form v u).has.points k n h (sym reads.same_units) reads.clean s l
      (λ longer. t longer (one_form v u).has.points reads) g
  utf8_prefix_after_units {v} (Err y) k n h u s l t g =
      (IsWellFormed-equal_bytes h g.becomes.err, ((λ f p b g m. s f p b g (omega (arith, l, m))), tt))

-- room for a list is room for its front, and after that for its back
pub room_for_front : (s : UnitString) (a b : List ℕ) → HasRoomFor s (a ++ b) → HasRoomFor s a
room_for_front s a b fit =
    let front = beginning_of_form (s.units ++ a) b fit.whole (subst (IsForm fit.whole) (sym (append_assoc s.units a b)) fit.form) in
    record { whole = front.whole; form = front.form; within = omega (arith, front.within, fit.within) }

pub room_for_back : (s t : UnitString) (a b : List ℕ) → t.units ≡ s.units ++ a → s.capacity ≤ t.capacity → HasRoomFor s (a ++ b)
    → HasRoomFor t b
room_for_back s t a b e larger fit = grind (arith, append_assoc)

-- equal bytes are equal contents
pub contents_kept : {T E : Type 0} (r : Result T E) (old new : UnitString) → new.bytes ≡ old.bytes → OnErr r (KeepsContents old new)
contents_kept (Ok _) old new same = tt
contents_kept (Err _) old new same = record {
  units = units_from_form new.bytes new.units old.units new.form (subst (λ w. IsForm w old.units) (sym same) old.form);
  bytes = same;
}

-- Taking back what was appended.

-- a lead at the end has three bytes
lead_end : {w : List ℕ} (h : IsWellFormed w) (l : ℕ) → IsLead l → (f : List ℕ) × (h.points ≡ f ++ l ∷ [])
    → (3 ≤ length w) × (take (length w - 3) w ++ encoding l ≡ w)
lead_end {w} h l lead last = grind (arith, length-surrogate, bytes-pushed, length-append, take_at)

pub lead_length : {w : List ℕ} (n : ℕ) (h : IsWellFormed w) (o : Option ℕ) → n ≡ length w → IfSome o IsLead
    → IfSome o (λ l. (f : List ℕ) × (h.points ≡ f ++ l ∷ [])) → IfSome o (λ l. IsLead l × (3 ≤ n))
lead_length n h None e lead last = tt
lead_length n h (Some l) e lead last = (lead, omega (arith, (lead_end h l lead last).0, e))

-- the bytes are as before if the lead that ended them is written again
pub taken_back : {w back : List ℕ} (n : ℕ) (now : List ℕ) (h : IsWellFormed w) (o : Option ℕ) → n ≡ length w → IfSome o IsLead
    → IfSome o (λ l. (f : List ℕ) × (h.points ≡ f ++ l ∷ [])) → IfNone o (take (length w) now ≡ w)
    → take (length w - 3) now ≡ take (length w - 3) w → IfNone o (back ≡ take n now)
    → IfSome o (λ l. back ≡ take (n - 3) now ++ encoding l) → back ≡ w
taken_back n now h None e lead last begins before none some = none ∙ ap (λ k. take k now) e ∙ begins
taken_back n now h (Some l) e lead last begins before none some =
    some ∙ ap (λ k. take (k - 3) now ++ encoding l) e ∙ ap (λ z. z ++ encoding l) before ∙ (lead_end h l lead last).1

-- what begins with the first `k` bytes of `a` and more, begins with these
pub begins_before : (k : ℕ) (a b c e : List ℕ) → take (length b) c ≡ b → b ≡ take k a ++ e → k ≤ length a → take k c ≡ take k a
begins_before k a b c e begins joined within = same_lists _ _ (grind (arith, places, ap length begins, ap length joined))
    (λ i d l. grind (arith, places, ap length joined, get_of begins i d, get_of joined i d))

-- The bytes before and after units were appended: the old ones stay, but for a lead at their end.
pub record KeepsFront (w now : List ℕ) (o : Option ℕ) : Type 0 where
  pub begins : IfNone o (take (length w) now ≡ w)
  pub before_lead : take (length w - 3) now ≡ take (length w - 3) w
  pub longer : length w ≤ length now

pub front_kept : {w now : List ℕ} (o : Option ℕ) (v : List ℕ) (h : IsWellFormed w)
    → IfNone o ((f : List ℕ) (l : ℕ) → IsLead l → h.points ≡ f ++ l ∷ [] → ⊥) → IsForm now (units h.points ++ v) → KeepsFront w now o
front_kept {w} {now} o v h none form =
    let u = units h.points in
    let back = one_form v (all_back u v (units_read form.points (u ++ v) form.reads)) in
    elim (meets_or_not h.points back.has.points) [
      | inl m ↦
          let s = meeting_bytes m h.encoded back.has.encoded in
          let same : now ≡ paired_bytes w m.lead m.trail back.one =
          same_form now (paired_bytes w m.lead m.trail back.one) (u ++ v) form (form_meeting (form_of h) back.has m) in
          let pair_bytes = encoding (pair m.lead m.trail) ++ drop 3 back.one in
          let joined : now ≡ take (length w - 3) w ++ pair_bytes =
          same ∙ append_assoc (take (length w - 3) w) (encoding (pair m.lead m.trail)) (drop 3 back.one) in
          let four = length-paired_bytes w back.one m.lead m.trail m.is_lead m.is_trail s.three s.three_after in
          record {
            begins = no_lead o none m.front m.lead m.is_lead m.ends;
            before_lead = ap (take (length w - 3)) joined ∙ take_at (take (length w - 3) w) pair_bytes (length w - 3)
                (omega (arith, length-take (length w - 3) w));
            longer = omega (arith, ap length same, four, s.three_after);
          }
      | inr n ↦
          let same : now ≡ w ++ back.one = same_form now (w ++ back.one) (u ++ v) form (form-append (form_of h) back.has n) in
          let begins : take (length w) now ≡ w = ap (take (length w)) same ∙ take_at w back.one (length w) refl in
          record {
            begins = if_none o begins;
            before_lead = sym (take-take (length w - 3) (length w) now (omega arith)) ∙ ap (take (length w - 3)) begins;
            longer = omega (arith, ap length same, length-append w back.one);
          }
    ]
  where
    no_lead : (o : Option ℕ) → IfNone o ((f : List ℕ) (l : ℕ) → IsLead l → h.points ≡ f ++ l ∷ [] → ⊥) → (f : List ℕ) (l : ℕ) → IsLead l
        → h.points ≡ f ++ l ∷ [] → IfNone o (take (length w) now ≡ w)
    no_lead None n f l lead e = absurd (n f l lead e)
    no_lead (Some l) n f m lead e = tt

    if_none : (o : Option ℕ) → take (length w) now ≡ w → IfNone o (take (length w) now ≡ w)
    if_none None e = e
    if_none (Some l) e = tt

-- The UTF-8 prefix: units after scalar values are scalar values if all are.

scalar_back : (c d : List ℕ) → AreScalar (c ++ d) → AreScalar d
scalar_back [] d s = s
scalar_back (p ∷ c) d s = scalar_back c d s.1

pub scalar_units : {w new v c : List ℕ} {known : Bool} (k : ℕ) (h : IsWellFormed w) → AreScalarTo k h.points → length w ≤ k
    → IsKnownForm new (units h.points ++ v) known → IsTrue known → Reads c v → AreScalar c
scalar_units {w} {new} {v} {c} k h prefix within form is r =
    let front = all_scalar h.points k prefix (omega (arith, within, ap length h.encoded)) in
    let points = form.form.points in
    let clean = clean-append h.points c h.clean r.clean (scalar_front_unpaired front) in
    let same : units points ≡ units (h.points ++ c) =
    form.form.reads.same_units ∙ sym (units-append h.points c ∙ ap (λ z. units h.points ++ z) r.same_units) in
    scalar_back h.points c (subst AreScalar (same_reading points (h.points ++ c) form.form.reads.clean clean same) (form.scalar is))
