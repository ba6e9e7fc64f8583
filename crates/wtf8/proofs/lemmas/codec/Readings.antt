-- Code points and their units, surrogates at the seam of two lists, and the only reading of a list of units.
use Rattle.wtf8.proofs.Common.{◌≡◌, ℕ, ◌⊎◌, inl, inr, List, [], ◌∷◌, ◌++◌, drop, get_or, length, true, refl, sym, ap, ◌∙◌, subst, arith}
use Rattle.wtf8.proofs.Common.{length-append, le-leb, cases_Bool, false≢true, same_from_push, IsLead, IsTrail, MeetsAsPair, ◌+◌, ◌-◌, ◌*◌}
use Rattle.wtf8.proofs.Common.{◌/◌, ◌%◌, ◌<◌, ◌≤◌, lt-ltb, le-ltb, cases_lt, append-nil, flat_map-append, units, pair, encoding, bytes}
use Rattle.wtf8.proofs.Common.{IsCodePoint, IsClean, drop_at, bytes-injective, Reads, IsWellFormed, IsForm, BeginsWithPoint, length-drop}
use Rattle.wtf8.proofs.Common.{drop-drop, nat_tests, common_steps}
use Rattle.wtf8.specs.Concatenation.{is_pair}
use Rattle.wtf8.specs.PositionLaws.{ListsHaveLengths}
use Rattle.wtf8.specs.Unicode.{units_of}
use Rattle.wtf8.proofs.lemmas.codec.Encoding.{encoding_cases, length-encoding_bounds, begins_with, bytes-append}

-- A lead at the end of one list and a trail at the start of the next.

pub is_pair-surrogates : (l t : ℕ) → IsLead l → IsTrail t → is_pair l t ≡ true
unfolding is_pair
is_pair-surrogates l t h k = rw (le-leb 0xD800 l h.0, le-leb l 0xDBFF h.1, le-leb 0xDC00 t k.0, le-leb t 0xDFFF k.1) refl

pub surrogates_from_is_pair : (l t : ℕ) → is_pair l t ≡ true → IsLead l × IsTrail t
unfolding is_pair
surrogates_from_is_pair l t e = ((grind (arith, nat_tests), grind (arith, nat_tests)), (grind (arith, nat_tests), grind (arith, nat_tests)))

-- two lists with a lead and a trail at their seam
abbrev pub meets_by : {c d : List ℕ} (f r : List ℕ) (l t : ℕ) → IsLead l → IsTrail t → c ≡ f ++ l ∷ [] → d ≡ t ∷ r → MeetsAsPair c d
meets_by f r l t h k e g = record { front = f; lead = l; trail = t; rest = r; is_lead = h; is_trail = k; ends = e; begins = g }

-- `MeetsAsPair` of equal lists
abbrev pub MeetsAsPair-equal_lists : {a b c d : List ℕ} → MeetsAsPair a b → c ≡ a → d ≡ b → MeetsAsPair c d
MeetsAsPair-equal_lists m e g = meets_by m.front m.rest m.lead m.trail m.is_lead m.is_trail (e ∙ m.ends) (g ∙ m.begins)

pub MeetsAsPair-cons : (p : ℕ) {c d : List ℕ} → MeetsAsPair c d → MeetsAsPair (p ∷ c) d
MeetsAsPair-cons p m = meets_by (p ∷ m.front) m.rest m.lead m.trail m.is_lead m.is_trail (ap (λ e. p ∷ e) m.ends) m.begins

-- no pair forms with an empty list, after a number that is no lead or before one that is no trail
pub unpaired-nil_left : {d : List ℕ} → ¬ (MeetsAsPair [] d)
unpaired-nil_left m = omega (arith, ap length m.ends, length-append m.front (m.lead ∷ []))

pub unpaired-nil_right : {c : List ℕ} → ¬ (MeetsAsPair c [])
unpaired-nil_right m = omega (arith, ap length m.begins)

pub unpaired-after_no_lead : (f : List ℕ) (p : ℕ) {d : List ℕ} → ¬ (IsLead p) → ¬ (MeetsAsPair (f ++ p ∷ []) d)
unpaired-after_no_lead f p n m = n (subst IsLead (sym (same_from_push f m.front p m.lead m.ends).1) m.is_lead)

pub unpaired-before_no_trail : {c : List ℕ} (p : ℕ) (r : List ℕ) → ¬ (IsTrail p) → ¬ (MeetsAsPair c (p ∷ r))
unpaired-before_no_trail p r n m = n (subst IsTrail (sym (ap (λ w. get_or w 0 0) m.begins)) m.is_trail)

pub is_pair-meeting : (p q : ℕ) (d : List ℕ) → MeetsAsPair (p ∷ []) (q ∷ d) → is_pair p q ≡ true
is_pair-meeting p q d m = grind (arith, common_steps, same_from_push, is_pair-surrogates)

ends_with-uncons : (p q : ℕ) (c f : List ℕ) (l : ℕ) → p ∷ q ∷ c ≡ f ++ l ∷ [] → (g : List ℕ) × (q ∷ c ≡ g ++ l ∷ [])
ends_with-uncons p q c [] l e = absurd (omega (arith, ap length e))
ends_with-uncons p q c (x ∷ f) l e = (f, ap (drop 1) e)

pub MeetsAsPair-uncons : (p q : ℕ) (c d : List ℕ) → MeetsAsPair (p ∷ q ∷ c) d → MeetsAsPair (q ∷ c) d
MeetsAsPair-uncons p q c d m = grind (arith, ends_with-uncons)

-- a pair at the seam after joined lists is a pair after the second of them, unless that is empty
pub MeetsAsPair-back : (f c d : List ℕ) → 0 < length c → MeetsAsPair (f ++ c) d → MeetsAsPair c d
MeetsAsPair-back [] c d n m = m
MeetsAsPair-back (p ∷ []) [] d n m = absurd (omega (arith, n))
MeetsAsPair-back (p ∷ []) (q ∷ c) d n m = MeetsAsPair-uncons p q c d m
MeetsAsPair-back (p ∷ q ∷ f) c d n m = MeetsAsPair-back (q ∷ f) c d n (MeetsAsPair-uncons p q (f ++ c) d m)

-- it is decidable whether two lists meet as a pair
pub meets_or_not : (c d : List ℕ) → MeetsAsPair c d ⊎ ¬ (MeetsAsPair c d)
meets_or_not [] d = inr unpaired-nil_left
meets_or_not (p ∷ []) [] = inr unpaired-nil_right
meets_or_not (p ∷ []) (q ∷ d) = elim (cases_Bool (is_pair p q)) [
  | inl e ↦ let h = surrogates_from_is_pair p q e in inl (meets_by [] d p q h.0 h.1 refl refl)
  | inr e ↦ inr (λ m. false≢true (sym e ∙ is_pair-meeting p q d m))
]
meets_or_not (p ∷ q ∷ c) d = grind (arith, common_steps, MeetsAsPair-cons, MeetsAsPair-uncons, meets_or_not (q ∷ c) d)

-- The units of code points: one below U+10000, two from there on.

pub units_one : (p : ℕ) → p < 0x10000 → units_of p ≡ p ∷ []
unfolding units_of
units_one p h = rw (lt-ltb p 0x10000 h) refl

-- the two surrogates of a supplementary code point
abbrev pub lead_of : ℕ → ℕ
lead_of p = 0xD800 + (p - 0x10000) / 0x400

abbrev pub trail_of : ℕ → ℕ
trail_of p = 0xDC00 + (p - 0x10000) % 0x400

pub units_two : (p : ℕ) → 0x10000 ≤ p → units_of p ≡ lead_of p ∷ trail_of p ∷ []
unfolding units_of
units_two p h = rw (le-ltb p 0x10000 h) refl

pub units_of_lengths : (p : ℕ) → (p < 0x10000 → length (units_of p) ≡ 1) × (0x10000 ≤ p → length (units_of p) ≡ 2)
units_of_lengths p = (λ h. ap length (units_one p h), λ h. ap length (units_two p h))

pub units_pair : (l t : ℕ) → IsLead l → IsTrail t → units_of (pair l t) ≡ l ∷ t ∷ []
units_pair l t h k = grind (arith, units_two)

pub units-cons_one : (p : ℕ) (c : List ℕ) → p < 0x10000 → units (p ∷ c) ≡ p ∷ units c
units-cons_one p c h = ap (λ u. u ++ units c) (units_one p h)

pub units-cons_two : (p : ℕ) (c : List ℕ) → 0x10000 ≤ p → units (p ∷ c) ≡ lead_of p ∷ trail_of p ∷ units c
units-cons_two p c h = ap (λ u. u ++ units c) (units_two p h)

pub units-append : (c d : List ℕ) → units (c ++ d) ≡ units c ++ units d
units-append c d = flat_map-append units_of c d

pub units-pushed : (c : List ℕ) (p : ℕ) → units (c ++ p ∷ []) ≡ units c ++ units_of p
units-pushed c p = units-append c (p ∷ []) ∙ ap (λ u. units c ++ u) (append-nil (units_of p))

-- bounds between the numbers of code points, units and bytes
pub lengths_of_one : (p : ℕ) → (1 ≤ length (units_of p)) × (length (units_of p) ≤ length (encoding p))
    × (length (encoding p) ≤ 3 * length (units_of p)) × (length (encoding p) ≤ 4)
lengths_of_one p = grind (arith, encoding_cases, units_one, units_two)

pub lists_have_lengths : ListsHaveLengths
lists_have_lengths [] = record { points = omega arith; units_least = omega arith; units_most = omega arith; bytes_most = omega arith }
lists_have_lengths (p ∷ c) =
    grind (arith, lengths_of_one p, lists_have_lengths c, length-append (units_of p) (units c), length-append (encoding p) (bytes c))

-- Clean lists of code points, divided and joined.

pub clean-first : (p : ℕ) (c : List ℕ) → IsClean (p ∷ c) → IsCodePoint p
clean-first p c x = grind (arith)

pub clean-rest : (p : ℕ) (c : List ℕ) → IsClean (p ∷ c) → IsClean c
clean-rest p c x = grind (arith)

pub clean-front : (c d : List ℕ) → IsClean (c ++ d) → IsClean c
clean-front [] d x = tt
clean-front (p ∷ []) [] x = x
clean-front (p ∷ []) (q ∷ d) x = x.0
clean-front (p ∷ q ∷ c) d x = (x.0, x.1, clean-front (q ∷ c) d x.2)

pub clean-back : (c d : List ℕ) → IsClean (c ++ d) → IsClean d
clean-back [] d x = x
clean-back (p ∷ c) d x = clean-back c d (clean-rest p (c ++ d) x)

pub clean-append : (c d : List ℕ) → IsClean c → IsClean d → ¬ (MeetsAsPair c d) → IsClean (c ++ d)
clean-append [] d x y n = y
clean-append (p ∷ []) [] x y n = x
clean-append (p ∷ []) (q ∷ d) x y n = (x, λ h. n (meets_by [] d p q h.0 h.1 refl refl), y)
clean-append (p ∷ q ∷ c) d x y n = (x.0, x.1, clean-append (q ∷ c) d x.2 y (λ m. n (MeetsAsPair-cons p m)))

-- the parts of a divided clean list do not meet as a pair
pub clean-unpaired : (c d : List ℕ) → IsClean (c ++ d) → ¬ (MeetsAsPair c d)
clean-unpaired [] d x m = unpaired-nil_left m
clean-unpaired (p ∷ []) [] x m = unpaired-nil_right m
clean-unpaired (p ∷ []) (q ∷ d) x m = x.1 (surrogates_from_is_pair p q (is_pair-meeting p q d m))
clean-unpaired (p ∷ q ∷ c) d x m = clean-unpaired (q ∷ c) d x.2 (MeetsAsPair-uncons p q c d m)

-- A list of units has at most one reading and one form, and bytes determine code points and units.

pub cons-equal_parts : (p q : ℕ) (r s : List ℕ) → p ∷ r ≡ q ∷ s → (p ≡ q) × (r ≡ s)
cons-equal_parts p q r s e = (ap (λ w. get_or w 0 0) e, ap (drop 1) e)

-- a trail that is the first unit is the first code point
pub trail_first : (p : ℕ) (c : List ℕ) (t : ℕ) (r : List ℕ) → IsClean (p ∷ c) → units (p ∷ c) ≡ t ∷ r → IsTrail t → p ≡ t
trail_first p c t r x e h = grind (arith, cases_lt, cons-equal_parts, units-cons_one, clean-first, units-cons_two)

pub no_trail_after_lead : (p : ℕ) (c : List ℕ) (t : ℕ) (r : List ℕ) → IsClean (p ∷ c) → IsLead p → IsTrail t → ¬ (units c ≡ t ∷ r)
no_trail_after_lead p [] t r x l k e = omega (arith, ap length e)
no_trail_after_lead p (q ∷ c) t r x l k e = x.1 (l, rw (trail_first q c t r x.2 e k) k)

pub same_reading : (c d : List ℕ) → IsClean c → IsClean d → units c ≡ units d → c ≡ d
same_reading [] [] x y e = refl
same_reading [] (q ∷ d) x y e = absurd (omega (arith, ap length e, (lists_have_lengths (q ∷ d)).points))
same_reading (p ∷ c) [] x y e = absurd (omega (arith, ap length e, (lists_have_lengths (p ∷ c)).points))
same_reading (p ∷ c) (q ∷ d) x y e = grind (
  arith,
  cases_lt,
  cons-equal_parts,
  units-cons_one,
  units-cons_two,
  clean-first,
  clean-rest,
  no_trail_after_lead p c,
  no_trail_after_lead q d,
  same_reading c d,
)

pub reads_same : {c d u : List ℕ} → Reads c u → Reads d u → c ≡ d
reads_same {c} {d} x y = same_reading c d x.clean y.clean (x.same_units ∙ sym y.same_units)

-- equal units have equal forms
pub same_form : (w v u : List ℕ) → IsForm w u → IsForm v u → w ≡ v
same_form w v u x y = sym x.encoded ∙ ap bytes (reads_same x.reads y.reads) ∙ y.encoded

-- bytes are the form of at most one list of units
pub units_from_form : (w a b : List ℕ) → IsForm w a → IsForm w b → a ≡ b
units_from_form w a b x y =
    sym x.reads.same_units ∙ (ap units (bytes-injective x.points y.points (x.encoded ∙ sym y.encoded)) ∙ y.reads.same_units)

-- equal well-formed bytes have the same code points
pub same_points : {w v : List ℕ} (x : IsWellFormed w) (y : IsWellFormed v) → w ≡ v → x.points ≡ y.points
same_points x y e = bytes-injective x.points y.points (x.encoded ∙ (e ∙ sym y.encoded))

-- only the empty list has no bytes
pub nil_from_bytes : (c : List ℕ) → length (bytes c) ≡ 0 → c ≡ []
nil_from_bytes [] e = refl
nil_from_bytes (p ∷ c) e = absurd (omega (arith, length-encoding_bounds p, length-append (encoding p) (bytes c)))

pub points-nil : {w : List ℕ} (h : IsWellFormed w) → length w ≡ 0 → h.points ≡ []
points-nil h e = nil_from_bytes h.points (ap length h.encoded ∙ e)

-- the empty list, and bytes equal to well-formed ones, are well-formed
abbrev pub IsWellFormed-nil : {w : List ℕ} → w ≡ [] → IsWellFormed w
IsWellFormed-nil e = record { points = []; clean = tt; encoded = sym e }

abbrev pub IsWellFormed-equal_bytes : {v w : List ℕ} → IsWellFormed v → w ≡ v → IsWellFormed w
IsWellFormed-equal_bytes h e = record { points = h.points; clean = h.clean; encoded = h.encoded ∙ sym e }

-- the well-formed bytes from `at` on, without their first code point `p`
pub record Taken (v : List ℕ) (at : ℕ) (h : IsWellFormed (drop at v)) (p next : ℕ) : Type 0 where
  pub within : next ≤ length v
  pub rest : IsWellFormed (drop next v)
  pub joined : h.points ≡ p ∷ rest.points

-- the first code point of nonempty bytes, and the rest
pub first_of : {w : List ℕ} (h : IsWellFormed w) → 0 < length w → (b : BeginsWithPoint w) × Taken w 0 h b.point (length (encoding b.point))
first_of {w} h n = by h.points h.clean h.encoded
  where
    by : (c : List ℕ) (x : IsClean c) (e : bytes c ≡ w)
        → (b : BeginsWithPoint w) × Taken w 0 (record { points = c; clean = x; encoded = e }) b.point (length (encoding b.point))
    by [] x e = absurd (omega (arith, ap length e))
    by (p ∷ c) x e =
        let cut : drop (length (encoding p)) w ≡ bytes c =
        ap (drop (length (encoding p))) (sym e) ∙ drop_at (encoding p) (bytes c) (length (encoding p)) refl in (
          begins_with p (bytes c) w (clean-first p c x) (sym e),
          record {
            within = omega (arith, ap length e, length-append (encoding p) (bytes c));
            rest = record { points = c; clean = clean-rest p c x; encoded = sym cut };
            joined = refl;
          },
        )

pub Taken-from_first : (v : List ℕ) (at : ℕ) (h : IsWellFormed (drop at v)) (p next : ℕ) → at < length v
    → ((b : BeginsWithPoint (drop at v)) → (p ≡ b.point) × (next ≡ at + length (encoding b.point))) → Taken v at h p next
Taken-from_first v at h p next long read =
    let f = first_of h (omega (arith, length-drop at v)) in
    let was = read f.0 in
    record {
      within = omega (arith, was.1, f.1.within, length-drop at v, long);
      rest = IsWellFormed-equal_bytes f.1.rest (ap (λ k. drop k v) was.1 ∙ sym (drop-drop (length (encoding f.0.point)) at v));
      joined = f.1.joined ∙ ap (λ q. q ∷ f.1.rest.points) (sym was.0);
    }

-- The form of two lists of units, one after the other, without a pair at their seam.

-- the units meet as a pair if their code points do
pub units_meet : {c d a b : List ℕ} → Reads c a → Reads d b → MeetsAsPair c d → MeetsAsPair a b
units_meet x y m = grind (arith, units-pushed, units_one)

-- without a pair at the seam of their code points, and of their units
abbrev pub form-append : {w v a b : List ℕ} (x : IsForm w a) (y : IsForm v b) → ¬ (MeetsAsPair x.points y.points) → IsForm (w ++ v) (a ++ b)
form-append x y n = record {
  points = x.points ++ y.points;
  reads = record {
    clean = clean-append x.points y.points x.reads.clean y.reads.clean n;
    same_units = simp (units-append, x.reads.same_units, y.reads.same_units);
  };
  encoded = simp (bytes-append, x.encoded, y.encoded);
}

abbrev pub form_append-unpaired : (w v a b : List ℕ) → IsForm w a → IsForm v b → ¬ (MeetsAsPair a b) → IsForm (w ++ v) (a ++ b)
form_append-unpaired w v a b x y n = form-append x y (λ m. n (units_meet x.reads y.reads m))
