-- The effect of appending calls: the contents, the UTF-8 prefix and the capacity.
use Rattle.wtf8.proofs.Common.{form_of, well_formed_of, AreScalarTo}
use Rattle.wtf8.proofs.Common.{◌≡◌, ◌+◌, ◌-◌, ◌≤◌, List, [], ◌∷◌, ℕ, ◌++◌, length, take, drop, Result, Ok, Err, OnOk, OnErr, refl, ap, ◌∙◌}
use Rattle.wtf8.proofs.Common.{sym, subst, arith, append-nil, drop_all, units, units_of, pair, IsLead, IsTrail, IsCodePoint, UnitString}
use Rattle.wtf8.proofs.Common.{KeepsContents, MeetsAsPair, encoding, IsWellFormed, IsForm, ExtendsForm, ExtendsFormOrKeeps, inl, inr, true}
use Rattle.wtf8.proofs.Common.{chars, IsUtf8, scalars-chars, and_parts, scalar, scalars, IsSurrogate, IsClean, bytes_are_encodes, AreScalar}
use Rattle.wtf8.proofs.Common.{append_assoc, length-append, All, take_at, drop_at, All-drop, All-same, Step, EachCallFits, Build, number}
use Rattle.wtf8.proofs.Common.{numbers, glue, IsUnit, bytes, ◌<◌, cases_lt, append_cancel_left, SurrogateAt, on_ok_weaker, vec_capacity}
use Rattle.wtf8.proofs.Common.{length-map, All-take, encodes-chars, on_err_weaker, IsOk, HasRoomFor, FitWithin, CallFits, CodePoint}
use lib.Utf8.{scalar_cases}
use Rattle.std.specs.declared.vec.Vec.{Vec}
use Rattle.wtf8.proofs.lemmas.codec.Encoding.{length-surrogate, length-encoding_bounds, length-bytes_append, encoding_four}
use Rattle.wtf8.proofs.lemmas.codec.Readings.{meets_by, same_form, units_from_form, IsWellFormed-equal_bytes}
use Rattle.wtf8.proofs.lemmas.codec.Readings.{same_reading, same_points, cons-equal_parts, meets_or_not, units_one}
use Rattle.wtf8.proofs.lemmas.codec.Readings.{lists_have_lengths, form-append}
use Rattle.wtf8.proofs.lemmas.codec.Scalars.{scalar-middle}
use Rattle.wtf8.proofs.lemmas.strings.Concatenation.{paired_bytes, meeting_bytes, form_meeting, one_form, clean-glue, units-glue}
use Rattle.wtf8.proofs.lemmas.strings.Concatenation.{glue_meeting, glue-unpaired, units_read, bytes_paired, bytes_glue-unpaired}
use Rattle.wtf8.proofs.lemmas.strings.Concatenation.{length-paired_bytes, form-glue}
use Rattle.wtf8.proofs.lemmas.strings.Surrogates.{surrogate_in}
use Rattle.wtf8.proofs.lemmas.strings.Positions.{shorter_is_prefix}

-- A string after a call that appended to its bytes, or was refused.

module _ {T E Z : Type 0} {b n : Vec ℕ Z} {v : List ℕ} {r : Result T E} where
  -- the units after a call that appended `v`; `was` and `old` are the string before it
  pub units_appended : (was old : UnitString) (k : IsWellFormed n.items) → was ≡ old → was.bytes ≡ b.items → ExtendsFormOrKeeps b v n r
      → OnOk r (units k.points ≡ old.units ++ v)
  units_appended was old k s e g =
      let before = subst (λ w. IsForm w old.units) (sym (ap (λ (t : UnitString). t.bytes) s) ∙ e) old.form in
      on_ok_weaker r (λ h. units_from_form n.items (units k.points) _ (form_of k) (rw h (g.extends old.units before))) g.becomes.ok

  pub kept_contents : (was old new : UnitString) → was ≡ old → was.bytes ≡ b.items → new.bytes ≡ n.items → ExtendsFormOrKeeps b v n r
      → OnErr r (KeepsContents old new)
  kept_contents was old new s e f g =
      on_err_weaker r (λ h.
      let same = f ∙ (h ∙ (sym e ∙ ap (λ (t : UnitString). t.bytes) s)) in
      let form = subst (λ w. IsForm w old.units) (sym same) old.form in
      record { units = units_from_form new.bytes new.units old.units new.form form; bytes = same }) g.becomes.err

  pub room_found : (was old : UnitString) → was ≡ old → was.bytes ≡ b.items → was.capacity ≡ vec_capacity b → ExtendsFormOrKeeps b v n r
      → HasRoomFor old v → IsOk r
  room_found was old s e c g fit =
      let before = subst (λ w. IsForm w old.units) (sym (ap (λ (t : UnitString). t.bytes) s) ∙ e) old.form in
      g.becomes.room (omega (
        arith,
        ap length (same_form g.whole fit.whole (old.units ++ v) (g.extends old.units before) fit.form),
        ap (λ (t : UnitString). t.capacity) s,
      ))

-- `v` was appended if the new bytes are the form of the old units followed by `v`
ExtendsForm-by_units : {w new : List ℕ} (v : List ℕ) (h : IsWellFormed w) → IsForm new (units h.points ++ v) → ExtendsForm w new v
ExtendsForm-by_units {w} {new} v h f u x = subst (λ a. IsForm new (a ++ v)) (units_from_form w (units h.points) u (form_of h) x) f

-- appending well-formed bytes, with and without a pair at the seam
pub ExtendsForm-meeting_pair : {w v : List ℕ} (h : IsWellFormed w) (k : IsWellFormed v) (m : MeetsAsPair h.points k.points)
    → ExtendsForm w (paired_bytes w m.lead m.trail v) (units k.points)
ExtendsForm-meeting_pair h k m = ExtendsForm-by_units (units k.points) h (form_meeting (form_of h) (form_of k) m)

pub ExtendsForm-append : {w v : List ℕ} (h : IsWellFormed w) (k : IsWellFormed v) → ¬ (MeetsAsPair h.points k.points)
    → ExtendsForm w (w ++ v) (units k.points)
ExtendsForm-append h k n = ExtendsForm-by_units (units k.points) h (form-append (form_of h) (form_of k) n)

-- the encoding of one code point is well-formed
abbrev pub one_point : (p : ℕ) → IsCodePoint p → IsWellFormed (encoding p)
one_point p range = record { points = p ∷ []; clean = range; encoded = append-nil (encoding p) }

-- the encoding of one code point is the form of its units
abbrev pub point_form : (p : ℕ) → IsCodePoint p → IsForm (encoding p) (units_of p)
point_form p range =
    record { points = p ∷ []; reads = record { clean = range; same_units = append-nil (units_of p) }; encoded = append-nil (encoding p) }

-- appending a trail that completes the lead at the end
pub record CompletedPair (w : List ℕ) (l t : ℕ) : Type 0 where
  pub three : 3 ≤ length w
  pub extends : ExtendsForm w (take (length w - 3) w ++ encoding (pair l t)) (units_of t)

pub CompletedPair-from_lead : {w : List ℕ} (h : IsWellFormed w) (f : List ℕ) (l t : ℕ) → IsLead l → IsTrail t → h.points ≡ f ++ l ∷ []
    → CompletedPair w l t
CompletedPair-from_lead {w} h f l t lead trail e =
    let k = one_point t (omega arith) in
    let m : MeetsAsPair h.points (t ∷ []) = meets_by f [] l t lead trail e refl in
    let three = (meeting_bytes m h.encoded k.encoded).three in
    let pair_bytes = take (length w - 3) w ++ encoding (pair l t) in
    let nothing : drop 3 (encoding t) ≡ [] = drop_all 3 (encoding t) (omega (arith, length-surrogate t (omega arith, omega arith))) in
    let whole : pair_bytes ++ drop 3 (encoding t) ≡ pair_bytes = ap (λ r. pair_bytes ++ r) nothing ∙ append-nil pair_bytes in
    let extends = subst (ExtendsForm w pair_bytes) (append-nil (units_of t))
    (subst (λ x. ExtendsForm w x (units (t ∷ []))) whole (ExtendsForm-meeting_pair h k m)) in
    record { three = three; extends = extends }

-- Text: its bytes are well-formed, and its characters are their code points.

-- a scalar value is a code point that is no surrogate
pub scalar_facts : (c : ℕ) → scalar c ≡ true → IsCodePoint c × ¬ (IsSurrogate c)
scalar_facts c e = grind (arith, scalar_cases)

pub clean-scalars : (cs : List ℕ) → scalars cs ≡ true → IsClean cs
clean-scalars [] e = tt
clean-scalars (c ∷ []) e = (scalar_facts c (and_parts (scalar c) (scalars []) e).0).0
clean-scalars (c ∷ d ∷ cs) e = grind (arith, and_parts, scalar_facts, clean-scalars (d ∷ cs))

-- the bytes of a text are well-formed, with its characters as code points
abbrev pub well_formed_text : (w : List ℕ) → IsUtf8 w → IsWellFormed w
well_formed_text w u = record {
  points = chars w;
  clean = clean-scalars (chars w) (scalars-chars w u);
  encoded = bytes_are_encodes (chars w) ∙ encodes-chars w u;
}

abbrev pub well_formed-equal_text : {v w : List ℕ} → IsUtf8 v → w ≡ v → IsWellFormed w
well_formed-equal_text {v} u e = IsWellFormed-equal_bytes (well_formed_text v u) e

-- Scalar values: those of a text, and none of them at a seam.

-- the characters of a text are scalar values
pub scalar-characters : (c : List ℕ) → scalars c ≡ true → AreScalar c
scalar-characters [] e = tt
scalar-characters (p ∷ c) e = grind (arith, and_parts, scalar_facts, scalar-characters c)

pub scalar_text : {w : List ℕ} → IsUtf8 w → AreScalar (chars w)
scalar_text {w} u = scalar-characters (chars w) (scalars-chars w u)

-- scalar values form no pair at a seam
pub scalar_front_unpaired : {c d : List ℕ} → AreScalar c → ¬ (MeetsAsPair c d)
scalar_front_unpaired s m = scalar-middle m.front m.lead [] (subst AreScalar m.ends s) (omega (arith, m.is_lead), omega (arith, m.is_lead))

pub scalar_back_unpaired : {c d : List ℕ} → AreScalar d → ¬ (MeetsAsPair c d)
scalar_back_unpaired s m = (subst AreScalar m.begins s).0 (omega (arith, m.is_trail), omega (arith, m.is_trail))

-- equal bytes have the same code points
pub scalar-equal_bytes : {v w : List ℕ} (h : IsWellFormed v) (k : IsWellFormed w) → w ≡ v → AreScalar h.points → AreScalar k.points
scalar-equal_bytes h k e s = subst AreScalar (sym (same_points k h e)) s

pub scalar_each : (c : List ℕ) → ((f : List ℕ) (p : ℕ) (b : List ℕ) → c ≡ f ++ p ∷ b → ¬ (IsSurrogate p)) → AreScalar c
scalar_each [] n = tt
scalar_each (p ∷ c) n = (n [] p c refl, scalar_each c (λ f q b e. n (p ∷ f) q b (ap (λ d. p ∷ d) e)))

-- The UTF-8 prefix: no code point that begins before a position is a surrogate.

pub scalar_all : (c : List ℕ) (k : ℕ) → AreScalar c → AreScalarTo k c
scalar_all c k s f p b e _ = scalar-middle f p b (subst AreScalar e s)

pub all_scalar : (c : List ℕ) (k : ℕ) → AreScalarTo k c → length (bytes c) ≤ k → AreScalar c
all_scalar c k s n = grind (arith, scalar_each, length-bytes_append, length-encoding_bounds)

pub scalar_to-front : (k n : ℕ) (c d : List ℕ) → AreScalarTo k (c ++ d) → n ≤ k → AreScalarTo n c
scalar_to-front k n c d s l f p b e m = s f p (b ++ d) (ap (λ x. x ++ d) e ∙ append_assoc f (p ∷ b) d) (omega (arith, l, m))

scalar_before : (k : ℕ) (f more b d : List ℕ) (p : ℕ) → AreScalarTo k (f ++ more) → f ++ p ∷ b ≡ (f ++ more) ++ d
    → length (bytes f) < length (bytes (f ++ more)) → length (bytes f) < k → ¬ (IsSurrogate p)
scalar_before k f [] b d p s e h l = absurd (omega (arith, h, ap (λ x. length (bytes x)) (append-nil f)))
scalar_before k f (q ∷ more) b d p s e h l = grind (arith, cons-equal_parts, append_cancel_left, append_assoc)

pub scalar_to-append : (k : ℕ) (c d : List ℕ) → AreScalarTo k c → (length (bytes c) < k → AreScalar d) → AreScalarTo k (c ++ d)
scalar_to-append k c d s t f p b e l = elim (cases_lt (length (bytes f)) (length (bytes c))) [
  | inl h ↦
      let r = shorter_is_prefix f (p ∷ b) c d (sym e) (omega (arith, h)) in
      scalar_before k f r.more b d p (subst (AreScalarTo k) r.joined s) (sym e ∙ ap (λ x. x ++ d) r.joined)
      (omega (arith, h, ap (λ x. length (bytes x)) r.joined)) l
  | inr h ↦
      let r = shorter_is_prefix c d f (p ∷ b) e h in
      let rest : d ≡ r.more ++ p ∷ b = append_cancel_left c _ _ (e ∙ (ap (λ x. x ++ p ∷ b) r.joined ∙ append_assoc c r.more (p ∷ b))) in
      scalar-middle r.more p b (subst AreScalar rest (t (omega (arith, h, l))))
]

scalar_to-paired : (k n : ℕ) (f : List ℕ) (l t : ℕ) (r : List ℕ) → IsLead l → IsTrail t → AreScalarTo k (f ++ l ∷ []) → n ≤ k
    → n ≤ length (bytes (f ++ l ∷ [])) → AreScalarTo n (f ++ pair l t ∷ r)
scalar_to-paired k n f l t r lead trail s m u =
    let front = scalar_to-append n f (pair l t ∷ []) (scalar_to-front k n f (l ∷ []) s m) (λ _. ((λ x. omega (arith, x.1)), tt)) in
    let was = length-bytes_append f l [] in
    let four = ap length (encoding_four (pair l t) (omega arith)) in
    subst (AreScalarTo n) (append_assoc f (pair l t ∷ []) r) (scalar_to-append n (f ++ pair l t ∷ []) r front
    (λ x. absurd (omega (arith, x, u, length-bytes_append f (pair l t) [], was, four, length-surrogate l (omega arith, omega arith)))))

pub scalar_to-glue : (k n : ℕ) (c d : List ℕ) → AreScalarTo k c → n ≤ k → (length (bytes c) < n → AreScalar d) → AreScalarTo n (glue c d)
scalar_to-glue k n c d s l t = elim (meets_or_not c d) [
  | inl m ↦
      let within : n ≤ length (bytes c) = elim (cases_lt (length (bytes c)) n) [
        | inl h ↦ absurd (scalar_back_unpaired (t h) m)
        | inr h ↦ h
      ] in
      subst (AreScalarTo n) (sym (glue_meeting c d m)) (scalar_to-paired k n m.front m.lead m.trail m.rest m.is_lead m.is_trail
      (subst (AreScalarTo k) m.ends s) l (omega (arith, within, ap (λ x. length (bytes x)) m.ends)))
  | inr a ↦ subst (AreScalarTo n) (sym (glue-unpaired c d a)) (scalar_to-append n c d (λ f p b e m. s f p b e (omega (arith, l, m))) t)
]

-- the UTF-8 prefix after replacing the back by one code point, which begins at or after its end
pub scalar_to-cut : (k n : ℕ) (f b : List ℕ) (q : ℕ) {c : List ℕ} → AreScalarTo k c → c ≡ f ++ b → n ≤ k → n ≤ length (bytes f)
    → AreScalarTo n (f ++ q ∷ [])
scalar_to-cut k n f b q s e l m =
    scalar_to-append n f (q ∷ []) (scalar_to-front k n f b (subst (AreScalarTo k) e s) l) (λ x. absurd (omega (arith, x, m)))

pub scalar_to-equal_bytes : {v w : List ℕ} (k : ℕ) (h : IsWellFormed v) (x : IsWellFormed w) → w ≡ v → AreScalarTo k h.points
    → AreScalarTo k x.points
scalar_to-equal_bytes k h x e s = subst (AreScalarTo k) (sym (same_points x h e)) s

-- no surrogate begins in the UTF-8 prefix of the bytes
pub none_before : {w : List ℕ} (k : ℕ) (h : IsWellFormed w) (i : ℕ) → AreScalarTo k h.points → i < k → ¬ (SurrogateAt w i)
none_before k h i s l at =
    let p = surrogate_in h.points i (subst (λ v. SurrogateAt v i) (sym h.encoded) at) in
    s p.front p.point p.back p.joined (omega (arith, l, p.front_len)) p.surrogate

-- after units were appended the bytes are well-formed, with a UTF-8 prefix of `n` bytes
utf8_prefix_after_extension : (c v : List ℕ) (k n : ℕ) {old new : List ℕ} (h : IsWellFormed old) → v ≡ units c → IsClean c
    → AreScalarTo k h.points → n ≤ k
    → (length old < n → AreScalar c) → ExtendsForm old new v → (x : IsWellFormed new) × (AreScalarTo n x.points × Unit {0})
utf8_prefix_after_extension c v k n h e x s l t extended =
    let f = extended (units h.points) (form_of h) in
    let now = well_formed_of f in
    let whole : units now.points ≡ units (glue h.points c) = cc (f.reads.same_units, units-glue h.points c) in
    let same : now.points ≡ glue h.points c = same_reading now.points (glue h.points c) now.clean (clean-glue h.points c h.clean x) whole in
    (now, (subst (AreScalarTo n) (sym same) (scalar_to-glue k n h.points c s l (λ m. t (omega (arith, m, ap length h.encoded)))), tt))

module _ {T E Z : Type 0} {b m : Vec ℕ Z} where
  -- after a call that appended units or was refused the bytes are well-formed, with a UTF-8 prefix of `n` bytes
  pub utf8_prefix_after_append : {v : List ℕ} (r : Result T E) (c : List ℕ) (k n : ℕ) (h : IsWellFormed b.items) → v ≡ units c
      → IsClean c → AreScalarTo k h.points → n ≤ k → (length b.items < n → AreScalar c) → ExtendsFormOrKeeps b v m r
      → (x : IsWellFormed m.items) × (AreScalarTo n x.points × Unit {0})
  utf8_prefix_after_append (Ok _) c k n h e x s l t g = utf8_prefix_after_extension c _ k n h e x s l t (rw g.becomes.ok g.extends)
  utf8_prefix_after_append (Err _) c k n h e x s l t g =
      (IsWellFormed-equal_bytes h g.becomes.err, ((λ f p b g m. s f p b g (omega (arith, l, m))), tt))

  pub utf8_prefix_after_push : (r : Result T E) (p : ℕ) (k n : ℕ) (h : IsWellFormed b.items) → IsCodePoint p → AreScalarTo k h.points
      → n ≤ k → (length b.items < n → ¬ (IsSurrogate p)) → ExtendsFormOrKeeps b (units_of p) m r
      → (x : IsWellFormed m.items) × (AreScalarTo n x.points × Unit {0})
  utf8_prefix_after_push r p k n h range s l t g =
      utf8_prefix_after_append r (p ∷ []) k n h (sym (append-nil (units_of p))) range s l (λ m. (t m, tt)) g

-- Lengths of forms and of their parts, and the capacity that a list of calls needs.

-- joined lists have at most the bytes of both, and at least one byte for each unit of the second
glued_length : (c d : List ℕ) → (length (bytes c) + length (units d) ≤ length (bytes (glue c d)))
    × (length (bytes (glue c d)) ≤ length (bytes c) + length (bytes d))
glued_length c d = elim (meets_or_not c d) [
  | inl m ↦
      let s = meeting_bytes m refl refl in
      let both = ap length (bytes_paired c d m refl refl) in
      let paired = length-paired_bytes (bytes c) (bytes d) m.lead m.trail m.is_lead m.is_trail s.three s.three_after in
      let three = length-surrogate m.trail (omega (arith, m.is_trail), omega (arith, m.is_trail)) in
      let back : length (bytes d) ≡ 3 + length (bytes m.rest) = simp (m.begins, length-append, three) in
      let own : length (units d) ≡ 1 + length (units m.rest) = grind (arith, length-append, units_one) in
      (omega (arith, both, paired, back, own, (lists_have_lengths m.rest).units_least), omega (arith, both, paired))
  | inr n ↦
      let both = ap length (bytes_glue-unpaired c d n refl refl) ∙ length-append (bytes c) (bytes d) in
      (omega (arith, both, (lists_have_lengths d).units_least), omega (arith, both))
]

-- the form of two lists has at most the bytes of both forms, and at least one byte for each unit of the second
pub both_length : {w v z a b : List ℕ} → IsForm w a → IsForm v b → IsForm z (a ++ b)
    → (length w + length b ≤ length z) × (length z ≤ length w + length v)
both_length {w} {v} {z} {a} {b} x y f =
    let n = glued_length x.points y.points in
    let whole = ap length (same_form z (bytes (glue x.points y.points)) (a ++ b) f (form-glue w v a b x y)) in
    let front = ap length x.encoded in
    (omega (arith, n.0, whole, front, ap length y.reads.same_units), omega (arith, n.1, whole, front, ap length y.encoded))

pub all_back : (a b : List ℕ) → All IsUnit (a ++ b) → All IsUnit b
all_back a b h = All-same IsUnit b (drop (length a) (a ++ b)) (sym (drop_at a b (length a) refl)) (All-drop IsUnit (length a) (a ++ b) h)

-- the first part of a list of units has a form, which is no longer than the form of the whole
pub beginning_of_form : (a b w : List ℕ) → IsForm w (a ++ b) → FitWithin a 0 (length w)
beginning_of_form a b w f =
    let all = units_read f.points (a ++ b) f.reads in
    let front = one_form a
    (All-same IsUnit a (take (length a) (a ++ b)) (sym (take_at a b (length a) refl)) (All-take IsUnit (length a) (a ++ b) all)) in
    record {
      whole = front.one;
      form = front.has;
      within = omega (arith, (both_length front.has (one_form b (all_back a b all)).has f).0);
    }

-- appending code points adds at least one byte for each
pub extended_length : (ps : List CodePoint) (w u y : List ℕ) → IsForm w u → IsForm y (u ++ units (numbers ps))
    → length w + length ps ≤ length y
extended_length ps w u y h k =
    let v = units (numbers ps) in
    let back = one_form v (all_back u v (units_read k.points (u ++ v) k.reads)) in
    omega (arith, (both_length h back.has k).0, (lists_have_lengths (numbers ps)).points, length-map ps number)

-- If each of `calls ++ more` fits `capacity`, each of `more` fits it after `calls`, and the capacity has not shrunk.
pub record Found (u : List ℕ) (calls : List Build) (now : List ℕ) (capacity grown : ℕ) : Type 0 where
  pub rest : (more : List Build) (v : List ℕ) → EachCallFits u (calls ++ more) v capacity → EachCallFits now more v capacity
  pub grows : (more : List Build) (v : List ℕ) → EachCallFits u (calls ++ more) v capacity → capacity ≤ grown

pub found_more : {u now new : List ℕ} {calls : List Build} {call : Build} {capacity grown larger : ℕ} (r : ℕ)
    → Found u calls now capacity grown → Step now call new r → ((v : List ℕ) → CallFits now call v capacity → grown ≤ larger)
    → Found u (calls ++ call ∷ []) new capacity larger
found_more {u} {now} {new} {calls} {call} {capacity} {grown} {larger} r f s h = grind (arith, append_assoc)
