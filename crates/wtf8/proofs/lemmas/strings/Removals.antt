-- A string from which units are removed becomes no longer.
use Rattle.wtf8.proofs.Common.{◌≡◌, ◌+◌, ◌-◌, ◌≤◌, List, [], ◌∷◌, ℕ, ◌++◌, length, take, drop, ap, ◌∙◌, sym, subst, arith, inl, inr, refl}
use Rattle.wtf8.proofs.Common.{IsTrail, IsForm, MeetsAsPair, IsUnit, All, bytes, glue, length-append, take-append-drop, get_or}
use Rattle.wtf8.proofs.Common.{drop-drop, All-take, All-same, take_at, FitWithin, UnitString}
use Rattle.std.proofs.lemmas.List.Elements.{All-append}
use Rattle.wtf8.proofs.lemmas.codec.Encoding.{length-surrogate}
use Rattle.wtf8.proofs.lemmas.codec.Readings.{same_form, meets_or_not, form_append-unpaired, units_one, unpaired-after_no_lead}
use Rattle.wtf8.proofs.lemmas.strings.Concatenation.{meeting_bytes, one_form, units_read, bytes_paired, bytes_glue-unpaired, length-paired_bytes, form-glue}
use Rattle.wtf8.proofs.lemmas.strings.ExtendedForms.{all_back, both_length}

-- joined lists have at least the bytes of the second, and at most two fewer than both
glued_least : (c d : List ℕ) → (length (bytes d) ≤ length (bytes (glue c d))) × (length (bytes c) + length (bytes d) ≤ length (bytes (glue c d)) + 2)
glued_least c d = elim (meets_or_not c d) [
  | inl m ↦
      let s = meeting_bytes m refl refl in
      let both = ap length (bytes_paired c d m refl refl) in
      let paired = length-paired_bytes (bytes c) (bytes d) m.lead m.trail m.is_lead m.is_trail s.three s.three_after in
      (omega (arith, both, paired, s.three), omega (arith, both, paired))
  | inr n ↦
      let both = ap length (bytes_glue-unpaired c d n refl refl) ∙ length-append (bytes c) (bytes d) in
      (omega (arith, both), omega (arith, both))
]

-- the form of two lists has at least the bytes of the second's form, and at most two fewer than both forms
both_least : {w v z a b : List ℕ} → IsForm w a → IsForm v b → IsForm z (a ++ b)
    → (length v ≤ length z) × (length w + length v ≤ length z + 2)
both_least {w} {v} {z} {a} {b} x y f =
    let n = glued_least x.points y.points in
    let whole = ap length (same_form z (bytes (glue x.points y.points)) (a ++ b) f (form-glue w v a b x y)) in
    let front = ap length x.encoded in
    let back = ap length y.encoded in
    (omega (arith, n.0, whole, back), omega (arith, n.1, whole, front, back))

-- two lists that do not meet as a pair have the bytes of both forms
apart_length : {w v z a b : List ℕ} → IsForm w a → IsForm v b → IsForm z (a ++ b) → ¬ (MeetsAsPair a b) → length z ≡ length w + length v
apart_length {w} {v} {z} {a} {b} x y f n =
    ap length (same_form z (w ++ v) (a ++ b) f (form_append-unpaired w v a b x y n)) ∙ length-append w v

all_front : (a b : List ℕ) → All IsUnit (a ++ b) → All IsUnit a
all_front a b h = All-same IsUnit a (take (length a) (a ++ b)) (sym (take_at a b (length a) refl)) (All-take IsUnit (length a) (a ++ b) h)

-- the form of a trail
form_of_trail : (t : ℕ) → IsTrail t → IsForm (bytes (t ∷ [])) (t ∷ [])
form_of_trail t h = record { points = t ∷ []; reads = record { clean = omega (arith, h); same_units = simp (units_one t (omega (arith, h))) }; encoded = refl }

length_of_trail : (t : ℕ) → IsTrail t → length (bytes (t ∷ [])) ≡ 3
length_of_trail t h = simp (length-append, length-surrogate t (omega (arith, h), omega (arith, h)))

-- the form of a trail and a list has three bytes more than that of the list
after_trail : (t : ℕ) (b : List ℕ) {v z : List ℕ} → IsTrail t → IsForm v b → IsForm z (t ∷ b) → length z ≡ 3 + length v
after_trail t b h y f =
    let whole = apart_length (form_of_trail t h) y f (unpaired-after_no_lead [] t (λ l. omega (arith, l, h))) in
    omega (arith, whole, length_of_trail t h)

-- without the units between two parts the form is no longer
shorter : (a m b : List ℕ) {w z : List ℕ} → All IsUnit (a ++ (m ++ b)) → IsForm z (a ++ (m ++ b)) → IsForm w (a ++ b) → length w ≤ length z
shorter a m b {w} {z} all f g =
    let rest = one_form (m ++ b) (all_back a (m ++ b) all) in
    let front = one_form a (all_front a (m ++ b) all) in
    let between = one_form m (all_front m b (all_back a (m ++ b) all)) in
    let back = one_form b (all_back m b (all_back a (m ++ b) all)) in
    let most = (both_length front.has back.has g).1 in
    let fewer = (both_least between.has back.has rest.has).0 in
    elim (meets_or_not a (m ++ b)) [
      | inl p ↦ met m refl p
      | inr n ↦ omega (arith, most, fewer, apart_length front.has rest.has f n)
    ]
  where
    met : (n : List ℕ) → m ≡ n → MeetsAsPair a (m ++ b) → length w ≤ length z
    met [] e p = omega (arith, ap length (same_form w z (a ++ b) g (subst (λ k. IsForm z (a ++ (k ++ b))) e f)))
    met (t ∷ n) e p =
        let own : All IsUnit (a ++ ((t ∷ n) ++ b)) = subst (λ k. All IsUnit (a ++ (k ++ b))) e all in
        let whole : IsForm z (a ++ (t ∷ (n ++ b))) = subst (λ k. IsForm z (a ++ (k ++ b))) e f in
        let others = all_back (t ∷ []) (n ++ b) (all_back a (t ∷ (n ++ b)) own) in
        let front = one_form a (all_front a (t ∷ (n ++ b)) own) in
        let rest = one_form (t ∷ (n ++ b)) (all_back a (t ∷ (n ++ b)) own) in
        let later = one_form (n ++ b) others in
        let between = one_form n (all_front n b others) in
        let back = one_form b (all_back n b others) in
        let trail : IsTrail t = subst IsTrail (ap (λ l. get_or l 0 0) (sym p.begins ∙ ap (λ k. k ++ b) e)) p.is_trail in
        omega (
          arith,
          (both_length front.has back.has g).1,
          (both_least between.has back.has later.has).0,
          after_trail t (n ++ b) trail later.has rest.has,
          (both_least front.has rest.has whole).1,
        )

-- the units that are left after a removal fit the string's capacity
pub removal_fits : (s : UnitString) (begin end : ℕ) → begin ≤ end → FitWithin (take begin s.units ++ drop end s.units) 0 s.capacity
removal_fits s begin end order =
    let u = s.units in
    let f = s.form in
    let a = take begin u in
    let m = take (end - begin) (drop begin u) in
    let b = drop end u in
    let rest : m ++ b ≡ drop begin u =
    ap (λ l. m ++ l) (ap (λ k. drop k u) (omega (arith, order)) ∙ sym (drop-drop (end - begin) begin u)) ∙ take-append-drop (end - begin) (drop begin u) in
    let whole : a ++ (m ++ b) ≡ u = ap (λ l. a ++ l) rest ∙ take-append-drop begin u in
    let all : All IsUnit (a ++ (m ++ b)) = subst (All IsUnit) (sym whole) (units_read f.points u f.reads) in
    let left = one_form (a ++ b) (All-append IsUnit a b (all_front a (m ++ b) all) (all_back m b (all_back a (m ++ b) all))) in
    record {
      whole = left.one;
      form = left.has;
      within = omega (arith, shorter a m b all (subst (IsForm s.bytes) (sym whole) f) left.has, s.fits);
    }
