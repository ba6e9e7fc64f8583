-- The length of a slice in bytes, and the halves of surrogate pairs at its ends.
use Rattle.std.proofs.Common.{◌≡◌, ℕ, ◌+◌, ◌*◌, ◌<◌, ◌≤◌, List, [], ◌∷◌, ◌++◌, length, take, drop, Option, Some, None, ap, sym, subst, ◌∙◌, refl}
use Rattle.std.proofs.Common.{append-nil, append_assoc, length-append, length-drop, length-take, get_or, add-zero, arith}
use Rattle.std.proofs.lemmas.List.{get_or-drop, get_or-take, take-append-drop, same_from_push}
use Rattle.std.specs.Option.{option_to_list, is_some}
use Rattle.std.specs.Prelude.{IfSome, IsSome, ◌↔◌}
use mir.Val.{bool_byte}
use Rattle.wtf8.specs.Appending.{FitWithin}
use Rattle.wtf8.specs.Concatenation.{MeetsAsPair}
use Rattle.wtf8.specs.Form.{IsForm, bytes, encoding}
use Rattle.wtf8.specs.Unicode.{IsLead, IsTrail, IsSurrogate, units_of}
use Rattle.wtf8.specs.UnitPosition.{units_of_slice, DividesPair}
use Rattle.wtf8.specs.View.{view_units, view_form}
use Rattle.wtf8.specs.declared.units.slices.UnitSlice.{UnitSlice}
use Rattle.wtf8.proofs.lemmas.codec.Encoding.{length-surrogate}
use Rattle.wtf8.proofs.lemmas.codec.Readings.{form_append-unpaired, same_form, units_one, unpaired-nil_left, unpaired-nil_right}
use Rattle.wtf8.proofs.lemmas.codec.Readings.{unpaired-after_no_lead, unpaired-before_no_trail}
use Rattle.wtf8_c.specs.Halves.{AreHalves}

-- the form of a half, or of nothing
half_form : (half : Option ℕ) → IfSome half IsSurrogate → IsForm (bytes (option_to_list half)) (option_to_list half)
half_form None h = record { points = []; reads = record { clean = tt; same_units = refl }; encoded = refl }
half_form (Some x) h = record {
  points = x ∷ [];
  reads = record { clean = omega arith; same_units = append-nil (units_of x) ∙ units_one x (omega arith) };
  encoded = refl;
}

half_length : (half : Option ℕ) → IfSome half IsSurrogate → length (bytes (option_to_list half)) ≡ 3 * length (option_to_list half)
half_length None h = refl
half_length (Some x) h = ap length (append-nil (encoding x)) ∙ length-surrogate x h

trail_is_surrogate : (half : Option ℕ) → IfSome half IsTrail → IfSome half IsSurrogate
trail_is_surrogate None h = h
trail_is_surrogate (Some x) h = (omega arith, omega arith)

lead_is_surrogate : (half : Option ℕ) → IfSome half IsLead → IfSome half IsSurrogate
lead_is_surrogate None h = h
lead_is_surrogate (Some x) h = (omega arith, omega arith)

unpaired_after_trail : (half : Option ℕ) (u : List ℕ) → IfSome half IsTrail → ¬ (MeetsAsPair (option_to_list half) u)
unpaired_after_trail None u h = unpaired-nil_left
unpaired_after_trail (Some x) u h = unpaired-after_no_lead [] x (λ l. omega (arith, h, l))

unpaired_before_lead : (half : Option ℕ) (u : List ℕ) → IfSome half IsLead → ¬ (MeetsAsPair u (option_to_list half))
unpaired_before_lead None u h = unpaired-nil_right
unpaired_before_lead (Some x) u h = unpaired-before_no_trail x [] (λ t. omega (arith, h, t))

count_of_half : (half : Option ℕ) → bool_byte (is_some half) ≡ length (option_to_list half)
count_of_half None = refl
count_of_half (Some x) = refl

-- the bytes of a slice's form
abbrev slice_bytes : UnitSlice → List ℕ
slice_bytes s = bytes (option_to_list s.trail) ++ (s.whole.bytes.now ++ bytes (option_to_list s.lead))

slice_form : (s : UnitSlice) → AreHalves s → IsForm (slice_bytes s) (units_of_slice s)
slice_form s halves =
    let trail = option_to_list s.trail in
    let lead = option_to_list s.lead in
    let back = form_append-unpaired s.whole.bytes.now (bytes lead) (view_units s.whole) lead (view_form s.whole)
    (half_form s.lead (lead_is_surrogate s.lead halves.lead)) (unpaired_before_lead s.lead (view_units s.whole) halves.lead) in
    form_append-unpaired (bytes trail) (s.whole.bytes.now ++ bytes lead) trail (view_units s.whole ++ lead)
    (half_form s.trail (trail_is_surrogate s.trail halves.trail)) back
    (unpaired_after_trail s.trail (view_units s.whole ++ lead) halves.trail)

-- the form of a slice has the bytes of its whole code points, and three for each half of a pair
slice_length : (s : UnitSlice) → AreHalves s → (n a b : ℕ) → n ≡ length s.whole.bytes.now → a ≡ bool_byte (is_some s.trail)
    → b ≡ bool_byte (is_some s.lead) → (w : List ℕ) → IsForm w (units_of_slice s) → length w ≡ n + 3 * (a + b)
slice_length s halves n a b has_n has_a has_b w form =
    let trail = bytes (option_to_list s.trail) in
    let lead = bytes (option_to_list s.lead) in
    omega (
      arith,
      ap length (same_form w (slice_bytes s) (units_of_slice s) form (slice_form s halves)),
      has_n,
      has_a ∙ count_of_half s.trail,
      has_b ∙ count_of_half s.lead,
      length-append trail (s.whole.bytes.now ++ lead),
      length-append s.whole.bytes.now lead,
      half_length s.trail (trail_is_surrogate s.trail halves.trail),
      half_length s.lead (lead_is_surrogate s.lead halves.lead),
    )

-- a slice fits a capacity exactly if that has room for these bytes
pub slice_room : (s : UnitSlice) → AreHalves s → (n a b capacity : ℕ) → n ≡ length s.whole.bytes.now → a ≡ bool_byte (is_some s.trail)
    → b ≡ bool_byte (is_some s.lead) → (n + 3 * (a + b) ≤ capacity) ↔ FitWithin (units_of_slice s) 0 capacity
slice_room s halves n a b capacity has_n has_a has_b =
    let long = slice_length s halves n a b has_n has_a has_b in
    let form = slice_form s halves in (
      λ fits. record { whole = slice_bytes s; form = form; within = omega (arith, long (slice_bytes s) form, fits) },
      λ fit. omega (arith, long fit.whole fit.form, fit.within),
    )

-- the halves of the part of `u` from `begin` to before `end` are those of the pairs that its ends divide

less_at_half : (u v w : List ℕ) (begin end : ℕ) → v ++ w ≡ drop begin (take end u) → 0 < length v + length w → begin < end
less_at_half u v w begin end e some =
    omega (arith, ap length e, some, length-append v w, length-drop begin (take end u), length-take end u)

trail_of_part : (half : Option ℕ) (rest u : List ℕ) (begin end : ℕ) → option_to_list half ++ rest ≡ drop begin (take end u)
    → (begin < end → IsSome half ↔ DividesPair u begin) → IfSome half IsTrail
trail_of_part None rest u begin end e divides = tt
trail_of_part (Some t) rest u begin end e divides =
    let less = less_at_half u (t ∷ []) rest begin end e (omega arith) in
    let m = (divides less).0 refl in
    let first : t ≡ get_or (take end u) begin 0 =
    ap (λ v. get_or v 0 0) e ∙ get_or-drop begin (take end u) 0 0 ∙ ap (λ k. get_or (take end u) k 0) (add-zero begin) in
    let other : get_or u begin 0 ≡ m.trail =
    ap (λ k. get_or u k 0) (sym (add-zero begin)) ∙ sym (get_or-drop begin u 0 0) ∙ ap (λ v. get_or v 0 0) m.begins in
    subst IsTrail (sym (first ∙ get_or-take end u begin 0 less ∙ other)) m.is_trail

lead_of_part : (half : Option ℕ) (front u : List ℕ) (begin end : ℕ) → front ++ option_to_list half ≡ drop begin (take end u)
    → (begin < end → IsSome half ↔ DividesPair u end) → IfSome half IsLead
lead_of_part None front u begin end e divides = tt
lead_of_part (Some l) front u begin end e divides =
    let m = (divides (less_at_half u front (l ∷ []) begin end e (omega arith))).0 refl in
    let before = take begin (take end u) in
    let whole : (before ++ front) ++ l ∷ [] ≡ m.front ++ m.lead ∷ [] =
    append_assoc before front (l ∷ []) ∙ ap (λ v. before ++ v) e ∙ take-append-drop begin (take end u) ∙ m.ends in
    subst IsLead (sym (same_from_push (before ++ front) m.front l m.lead whole).1) m.is_lead

pub halves_of_part : (s : UnitSlice) (u : List ℕ) (begin end : ℕ) → units_of_slice s ≡ drop begin (take end u)
    → (begin < end → IsSome s.trail ↔ DividesPair u begin) → (begin < end → IsSome s.lead ↔ DividesPair u end) → AreHalves s
halves_of_part s u begin end e trail lead = record {
  trail = trail_of_part s.trail (view_units s.whole ++ option_to_list s.lead) u begin end e trail;
  lead = lead_of_part s.lead (option_to_list s.trail ++ view_units s.whole) u begin end
      (append_assoc (option_to_list s.trail) (view_units s.whole) (option_to_list s.lead) ∙ e) lead;
}
