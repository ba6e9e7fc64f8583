-- Strings joined: the form of two lists of units, with the pair at the seam as one code point.
use Rattle.wtf8.proofs.Common.{◌≡◌, ℕ, inl, inr, ◌⊎◌, List, [], ◌∷◌, ◌++◌, refl, sym, ap, ◌∙◌, subst, arith, append_assoc, cases_Bool}
use Rattle.wtf8.proofs.Common.{append-nil, IsLead, IsTrail, units, units_of, pair, IsClean, Reads, MeetsAsPair, is_pair, glue, ◌+◌, ◌-◌}
use Rattle.wtf8.proofs.Common.{◌≤◌, length, take, drop, length-append, cases_lt, take_at, drop_at, same_from_push, bytes, encoding, IsForm}
use Rattle.wtf8.proofs.Common.{length-drop, All, All-nil, All-cons, All-head, All-tail, All-same, IsUnit, ◌%◌, ◌<◌, get_or}
use Rattle.wtf8.proofs.Common.{take-append-drop, length-take-le, form_of}
use Rattle.std.proofs.lemmas.List.{drop_more, take_more}
use Rattle.std.proofs.lemmas.List.Elements.{All-append}
use Rattle.wtf8.specs.Laws.{UnitsHaveOneReading, ReadingsAreOfUnits, UnitsHaveOneForm, FormsAreOfOneList, EqualFormsHaveEqualUnits}
use Rattle.wtf8.specs.Laws.{NoEncodingBeginsAnother}
use Rattle.wtf8.proofs.lemmas.codec.Encoding.{encoding_three, encoding_four, length-surrogate, bytes-append, bytes-pushed, encoding_same}
use Rattle.wtf8.proofs.lemmas.codec.Readings.{clean-append, clean-front, clean-rest, is_pair-surrogates, surrogates_from_is_pair, meets_by}
use Rattle.wtf8.proofs.lemmas.codec.Readings.{MeetsAsPair-cons, meets_or_not, unpaired-nil_right, unpaired-after_no_lead}
use Rattle.wtf8.proofs.lemmas.codec.Readings.{unpaired-before_no_trail, same_reading, units_one, units_pair, same_form, trail_first}
use Rattle.wtf8.proofs.lemmas.codec.Readings.{lead_of, trail_of, units_two, units-pushed, clean-first, units_from_form}

-- Lists of any kind: the last item, and the item at an index.

-- a list is empty or has a last item
pub last_of : (c : List ℕ) → (c ≡ []) ⊎ ((f : List ℕ) × (l : ℕ) × (c ≡ f ++ l ∷ []))
last_of [] = inl refl
last_of (p ∷ c) = elim (last_of c) [ inl e ↦ inr ([], p, ap (λ d. p ∷ d) e) | inr x ↦ inr (p ∷ x.0, x.1, ap (λ d. p ∷ d) x.2) ]

module _ {X : Type 0} where
  -- dividing a list with one more item, at that item or before it
  pub split_of_push : (xs : List X) (x : X) (front : List X) (y : X) (back : List X) → xs ++ x ∷ [] ≡ front ++ y ∷ back
      → ((xs ≡ front) × (x ≡ y)) ⊎ ((rest : List X) × (xs ≡ front ++ y ∷ rest) × (back ≡ rest ++ x ∷ []))
  split_of_push [] x [] y back e = inl (refl, ap (λ l. get_or l 0 x) e)
  split_of_push [] x (f ∷ front) y back e = absurd (omega (arith, ap length e, length-append front (y ∷ back)))
  split_of_push (z ∷ xs) x [] y back e = inr (xs, ap (λ h. h ∷ xs) (ap (λ l. get_or l 0 z) e), sym (ap (drop 1) e))
  split_of_push (z ∷ xs) x (f ∷ front) y back e =
      let same : z ≡ f = ap (λ l. get_or l 0 z) e in
      elim (split_of_push xs x front y back (ap (drop 1) e)) [
        | inl a ↦ inl (cc (a.0, same), a.1)
        | inr b ↦ inr (b.0, cc (b.1, same), b.2)
      ]

  -- the items before an index, the item there and the items after it are the list
  pub take-cons-drop : (xs : List X) (i : ℕ) (x : X) → i < length xs → x ≡ get_or xs i x → take i xs ++ x ∷ drop (i + 1) xs ≡ xs
  take-cons-drop xs i x h e =
      ap (λ y. take i xs ++ y ∷ drop (i + 1) xs) e ∙ (ap (λ d. take i xs ++ d) (sym (drop_more xs i x h)) ∙ take-append-drop i xs)

  pub take-push : (xs : List X) (i : ℕ) (x : X) → i < length xs → x ≡ get_or xs i x → take (i + 1) xs ≡ take i xs ++ x ∷ []
  take-push xs i x h e = take_more xs i x h ∙ ap (λ y. take i xs ++ y ∷ []) (sym e)

-- Joining lists of code points with `glue`: its result is clean and has the units of both.

-- a lead and a trail at the seam become one code point
glue-pair : (f : List ℕ) (l t : ℕ) (r : List ℕ) → IsLead l → IsTrail t → glue (f ++ l ∷ []) (t ∷ r) ≡ f ++ pair l t ∷ r
glue-pair [] l t r h k = rw (is_pair-surrogates l t h k) refl
glue-pair (p ∷ []) l t r h k = ap (λ e. p ∷ e) (glue-pair [] l t r h k)
glue-pair (p ∷ q ∷ f) l t r h k = ap (λ e. p ∷ e) (glue-pair (q ∷ f) l t r h k)

pub glue_meeting : (c d : List ℕ) (m : MeetsAsPair c d) → glue c d ≡ m.front ++ pair m.lead m.trail ∷ m.rest
glue_meeting c d m = grind (arith, glue-pair)

-- without a pair at the seam the lists are appended
pub glue-unpaired : (c d : List ℕ) → ¬ (MeetsAsPair c d) → glue c d ≡ c ++ d
glue-unpaired [] d n = refl
glue-unpaired (p ∷ []) [] n = refl
glue-unpaired (p ∷ []) (q ∷ d) n = elim (cases_Bool (is_pair p q)) [
  | inl e ↦ let h = surrogates_from_is_pair p q e in absurd (n (meets_by [] d p q h.0 h.1 refl refl))
  | inr e ↦ rw e refl
]
glue-unpaired (p ∷ q ∷ c) d n = ap (λ e. p ∷ e) (glue-unpaired (q ∷ c) d (λ m. n (MeetsAsPair-cons p m)))

clean-paired : (f : List ℕ) (l t : ℕ) (r : List ℕ) → IsClean (f ++ l ∷ []) → IsClean (t ∷ r) → IsLead l → IsTrail t
    → IsClean (f ++ pair l t ∷ r)
clean-paired f l t r x y h k = grind (arith, clean-append, clean-rest, unpaired-after_no_lead, clean-front, unpaired-before_no_trail)

pub clean-glue : (c d : List ℕ) → IsClean c → IsClean d → IsClean (glue c d)
clean-glue c d x y = elim (meets_or_not c d) [
  | inl m ↦ subst IsClean (sym (glue_meeting c d m)) (clean-paired m.front m.lead m.trail m.rest (subst IsClean m.ends x)
      (subst IsClean m.begins y) m.is_lead m.is_trail)
  | inr n ↦ subst IsClean (sym (glue-unpaired c d n)) (clean-append c d x y n)
]

pub units-glue : (c d : List ℕ) → units (glue c d) ≡ units c ++ units d
units-glue [] d = refl
units-glue (p ∷ []) [] = sym (append-nil (units (p ∷ [])))
units-glue (p ∷ []) (q ∷ d) = grind (arith, cases_Bool, surrogates_from_is_pair, units_pair, units_one, append-nil)
units-glue (p ∷ q ∷ c) d = ap (λ u. units_of p ++ u) (units-glue (q ∷ c) d) ∙ sym (append_assoc (units_of p) (units (q ∷ c)) (units d))

-- joining two readings reads the units of both
pub reads-glue : (c d a b : List ℕ) → Reads c a → Reads d b → Reads (glue c d) (a ++ b)
reads-glue c d a b x y = record { clean = clean-glue c d x.clean y.clean; same_units = cc (units-glue c d) }

pub glue-nil : (c : List ℕ) → glue c [] ≡ c
glue-nil c = glue-unpaired c [] unpaired-nil_right ∙ append-nil c

-- joining is associative, since both ways read the same units
pub glue_assoc : (c d e : List ℕ) → IsClean c → IsClean d → IsClean e → glue (glue c d) e ≡ glue c (glue d e)
glue_assoc c d e x y z = grind (arith, clean-glue, same_reading, units-glue, append_assoc)

-- The form of two lists of units, one after the other: its bytes and its length.

-- `w` without the lead at its end, the four bytes of the pair, `v` without the trail at its start
abbrev pub paired_bytes : List ℕ → ℕ → ℕ → List ℕ → List ℕ
paired_bytes w l t v = (take (length w - 3) w ++ encoding (pair l t)) ++ drop 3 v

-- the bytes of two lists that meet as a pair: before the lead, and after the trail
pub record MeetingBytes (w v front rest : List ℕ) (trail : ℕ) : Type 0 where
  pub three : 3 ≤ length w
  pub three_after : 3 ≤ length v
  pub before : take (length w - 3) w ≡ bytes front
  pub after : drop 3 v ≡ bytes rest
  pub last : get_or v 2 0 ≡ 0x80 + trail % 64

pub meeting_bytes : {w v c d : List ℕ} (m : MeetsAsPair c d) → bytes c ≡ w → bytes d ≡ v → MeetingBytes w v m.front m.rest m.trail
meeting_bytes {w} {v} m e g = grind (arith, bytes-pushed, length-surrogate, length-append, take_at, drop_at, encoding_three)

-- the bytes of two joined lists
pub bytes_paired : {w v : List ℕ} (c d : List ℕ) (m : MeetsAsPair c d) → bytes c ≡ w → bytes d ≡ v
    → bytes (glue c d) ≡ paired_bytes w m.lead m.trail v
bytes_paired {w} {v} c d m e g =
    let s = meeting_bytes m e g in simp (glue_meeting c d m, bytes-append, s.before, s.after, append_assoc)

pub bytes_glue-unpaired : {w v : List ℕ} (c d : List ℕ) → ¬ (MeetsAsPair c d) → bytes c ≡ w → bytes d ≡ v → bytes (glue c d) ≡ w ++ v
bytes_glue-unpaired {w} {v} c d n e g = simp (glue-unpaired c d n, bytes-append, e, g)

pub length-paired_bytes : (w v : List ℕ) (l t : ℕ) → IsLead l → IsTrail t → 3 ≤ length w → 3 ≤ length v
    → length (paired_bytes w l t v) + 2 ≡ length w + length v
length-paired_bytes w v l t lead trail m n = grind (arith, length-append, length-take-le, encoding_four, length-drop)

pub form-glue : (w v a b : List ℕ) (x : IsForm w a) (y : IsForm v b) → IsForm (bytes (glue x.points y.points)) (a ++ b)
form-glue w v a b x y = record { points = glue x.points y.points; reads = reads-glue x.points y.points a b x.reads y.reads; encoded = refl }

-- the form of both, with a pair at the seam of their code points
pub form_meeting : {w v a b : List ℕ} (x : IsForm w a) (y : IsForm v b) (m : MeetsAsPair x.points y.points)
    → IsForm (paired_bytes w m.lead m.trail v) (a ++ b)
form_meeting {w} {v} {a} {b} x y m =
    subst (λ z. IsForm z (a ++ b)) (bytes_paired x.points y.points m x.encoded y.encoded) (form-glue w v a b x y)

-- a lead that is the last unit is the last code point
pub lead_last : (c g : List ℕ) (l : ℕ) → IsLead l → units c ≡ g ++ l ∷ [] → (f : List ℕ) × (c ≡ f ++ l ∷ [])
lead_last c g l h e = elim (last_of c) [
  | inl z ↦ absurd (omega (arith, ap (λ d. length (units d)) z, ap length e, length-append g (l ∷ [])))
  | inr x ↦
      let f = x.0 in
      let p = x.1 in
      let whole : units f ++ units_of p ≡ g ++ l ∷ [] = cc (units-pushed f p, x.2) in
      elim (cases_lt p 0x10000) [
        | inl s ↦ (f, x.2 ∙ ap (λ n. f ++ n ∷ []) (same_from_push (units f) g p l (rw (units_one p s) at whole)).1)
        | inr s ↦
            let two : (units f ++ lead_of p ∷ []) ++ trail_of p ∷ [] ≡ g ++ l ∷ [] = rw (append_assoc, ← units_two p s) whole in
            absurd (omega (arith, (same_from_push (units f ++ lead_of p ∷ []) g (trail_of p) l two).1, h.1))
      ]
]

-- a trail that is the first unit is the first code point
pub trail_begins : (d r : List ℕ) (t : ℕ) → IsClean d → IsTrail t → units d ≡ t ∷ r → (s : List ℕ) × (d ≡ t ∷ s)
trail_begins [] r t x h e = absurd (omega (arith, ap length e))
trail_begins (p ∷ d) r t x h e = (d, ap (λ n. n ∷ d) (trail_first p d t r x e h))

-- the code points meet as a pair if their units do, with the same lead and trail
abbrev pub points_meet : {c d a b : List ℕ} → Reads c a → Reads d b → MeetsAsPair a b → MeetsAsPair c d
points_meet {c} {d} x y m =
    let before = lead_last c m.front m.lead m.is_lead (x.same_units ∙ m.ends) in
    let after = trail_begins d m.rest m.trail y.clean m.is_trail (y.same_units ∙ m.begins) in
    meets_by before.0 after.0 m.lead m.trail m.is_lead m.is_trail before.1 after.1

-- the form of both, with a pair at the seam of their units
pub form_paired : (w v a b : List ℕ) → IsForm w a → IsForm v b → (m : MeetsAsPair a b) → IsForm (paired_bytes w m.lead m.trail v) (a ++ b)
form_paired w v a b x y m = form_meeting x y (points_meet x.reads y.reads m)

-- the length of the form of both
pub length_paired : (w v z a b : List ℕ) → IsForm w a → IsForm v b → IsForm z (a ++ b) → MeetsAsPair a b
    → length z + 2 ≡ length w + length v
length_paired w v z a b x y f m =
    let s = meeting_bytes (points_meet x.reads y.reads m) x.encoded y.encoded in
    let same = same_form z (paired_bytes w m.lead m.trail v) (a ++ b) f (form_paired w v a b x y m) in
    ap (λ e. length e + 2) same ∙ length-paired_bytes w v m.lead m.trail m.is_lead m.is_trail s.three s.three_after

-- Proofs of the laws of readings and forms: they exist, and each is the only one.

-- the reading of a list of units: the first unit joined to the reading of the others
reading_exists : (u : List ℕ) → All IsUnit u → (c : List ℕ) × Reads c u
reading_exists [] h = ([], record { clean = tt; same_units = refl })
reading_exists (n ∷ u) h =
    let rest = reading_exists u (All-tail IsUnit n u h) in
    let unit = All-head IsUnit n u h in
    let same = append-nil (units_of n) ∙ units_one n (omega arith) in
    let one : Reads (n ∷ []) (n ∷ []) = record { clean = omega arith; same_units = same } in
    (glue (n ∷ []) rest.0, reads-glue (n ∷ []) rest.0 (n ∷ []) u one rest.1)

pub one_reading : UnitsHaveOneReading
one_reading u h = grind (arith, reading_exists, same_reading)

all_units : (c : List ℕ) → IsClean c → All IsUnit (units c)
all_units [] x = All-nil IsUnit
all_units (p ∷ c) x =
    let range = clean-first p c x in
    let own : All IsUnit (units_of p) = grind (arith, cases_lt, units_one, All-cons, All-nil, units_two) in
    All-append IsUnit (units_of p) (units c) own (all_units c (clean-rest p c x))

pub units_read : ReadingsAreOfUnits
units_read c u x = All-same IsUnit u (units c) (sym x.same_units) (all_units c x.clean)

pub one_form : UnitsHaveOneForm
one_form u h =
    let r = reading_exists u h in
    let form : IsForm (bytes r.0) u = record { points = r.0; reads = r.1; encoded = refl } in
    record { one = bytes r.0; has = form; no_other = λ w x. same_form w (bytes r.0) u x form }

pub form_of_one : FormsAreOfOneList
form_of_one w h = record { one = units h.points; has = form_of h; no_other = λ u x. units_from_form w u (units h.points) x (form_of h) }

pub equal_forms : EqualFormsHaveEqualUnits
equal_forms w v a b x y = (λ e. units_from_form v a b (subst (λ z. IsForm z a) e x) y, λ e. same_form w v b (subst (IsForm w) e x) y)

pub none_begins_another : NoEncodingBeginsAnother
none_begins_another p q r h k e = (encoding_same p q r [] (sym e ∙ sym (append-nil (encoding q)))).0
