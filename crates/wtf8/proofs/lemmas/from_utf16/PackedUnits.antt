-- Blocks of units of any kinds: their tags, and the piece of bytes that each unit contributes.
use Rattle.wtf8.proofs.Common.{◌≡◌, ℕ, zero, suc, ◌+◌, ◌-◌, ◌/◌, ◌%◌, ◌<◌, ◌≤◌, List, [], ◌∷◌, ◌++◌, length, take, get_or, refl, sym, ap, ◌∙◌, arith, lt-ltb, le-ltb}
use Rattle.wtf8.proofs.Common.{subst, cases_lt, inl, inr, true, drop, append-nil, append_assoc, units_of, IsSurrogate, encoding, IsKnownForm, Fits, Each1, Bool}
use Rattle.wtf8.proofs.Common.{IsTrue, ◌&&◌, DividesPair, length-chunk, take_all, w16, take-append-add, length-take-le, take-take, get_or-drop, ◌⊎◌, IsUnit, IsLead}
use Rattle.wtf8.proofs.Common.{IsTrail, pair, same_from_push, replicate, length-append, length-replicate, drop_all, get_or-append-add, AreAscii, map, min}
use Rattle.std.proofs.lemmas.List.{take-append-le, get_or-take, drop_more, get_or-replicate}
use Rattle.std.proofs.lemmas.Grind.{get_or_default_zero}
use Rattle.std.proofs.lemmas.Simd.{chunk-fits}
use Rattle.std.proofs.Math.Seq.{take-append_seam}
use Rattle.wtf8.specs.private.Prefixes.{IsReadTo}
use Rattle.wtf8.specs.private.PackedUnits.{packed_unit, packed_units, tagged, tagged_units, tagged_block}
use Rattle.wtf8.proofs.lemmas.lanes.AsciiFronts.{Each1-take, ascii_saturated, saturated}
use Rattle.wtf8.proofs.lemmas.codec.Encoding.{encoding_one, encoding_two, encoding_three, encoding_four, third_row}
use Rattle.wtf8.proofs.lemmas.codec.Readings.{unpaired-after_no_lead, unpaired-nil_right, unpaired-before_no_trail, units_one, units_pair}
use Rattle.wtf8.proofs.lemmas.from_utf16.Transcode.{IsKnownForm-append, IsKnownForm-nil, IsReadTo-append, undivided-after_no_lead}

-- The tag of a unit.

-- a tagged unit is the unit, or 0x10000 above a surrogate
abbrev pub IsTag : ℕ → ℕ → Type 0
IsTag x t = (t ≡ x) ⊎ ((t ≡ x + 0x10000) × IsSurrogate x)

pub tagged-scalar : (b x n : ℕ) → ¬ (IsSurrogate x) → tagged b x n ≡ x
tagged-scalar b x n s = grind (arith, cases_lt, lt-ltb, le-ltb)

pub tagged-lead_before_trail : (b x n : ℕ) → IsLead x → IsTrail n → tagged b x n ≡ x
tagged-lead_before_trail b x n l t = grind (arith, le-ltb, lt-ltb)

-- a unit between two others is no surrogate, one in no pair, the lead of a pair or the trail of one
data TagCase (b x n : ℕ) : Type 0 where
  scalar_unit : ¬ (IsSurrogate x) → tagged b x n ≡ x → TagCase b x n
  lone : IsSurrogate x → ¬ (IsLead x × IsTrail n) → tagged b x n ≡ x + 0x10000 → TagCase b x n
  lead : IsLead x → IsTrail n → TagCase b x n
  trail : IsLead b → IsTrail x → TagCase b x n

tag_cases : (b x n : ℕ) → TagCase b x n
tag_cases b x n = grind (arith, cases_lt, le-ltb, lt-ltb)

tagged-trail_after_lead : (b x n : ℕ) → IsTrail x → IsLead b → tagged b x n ≡ x
tagged-trail_after_lead b x n t l = grind (arith, le-ltb, lt-ltb)

pub IsTag-tagged : (b x n : ℕ) → IsTag x (tagged b x n)
IsTag-tagged b x n = grind (arith, cases_lt, le-ltb, lt-ltb)

pub length-tagged_units : (b : ℕ) (u : List ℕ) (a : ℕ) → length (tagged_units b u a) ≡ length u
length-tagged_units b [] a = refl
length-tagged_units b (x ∷ u) a = ap suc (length-tagged_units x u a)

-- the first units, each tagged
take-tagged_units : (k b : ℕ) (u : List ℕ) (a : ℕ) → take k (tagged_units b u a) ≡ tagged_units b (take k u) (get_or u k a)
take-tagged_units zero b u a = refl
take-tagged_units (suc k) b [] a = refl
take-tagged_units (suc zero) b (x ∷ u) a = refl
take-tagged_units (suc (suc k)) b (x ∷ []) a = refl
take-tagged_units (suc (suc k)) b (x ∷ y ∷ u) a = ap (λ t. tagged b x y ∷ t) (take-tagged_units (suc k) x (y ∷ u) a)

-- The piece of a unit, by its range.

pub packed_unit-lead : (b x : ℕ) → IsLead x → packed_unit b x ≡ (0xF0 + (x - 0xD7C0) / 256) ∷ (0x80 + (x - 0xD7C0) / 4 % 64) ∷ []
packed_unit-lead b x l = grind (arith, le-ltb, lt-ltb)

-- a lone surrogate takes the three bytes of its own value
packed_unit-lone : (b x : ℕ) → IsSurrogate x → packed_unit b (x + 0x10000) ≡ third_row x
packed_unit-lone b x s = grind (arith, le-ltb)

-- a tag on the unit before changes no byte
packed_unit-after_tag : (b d n : ℕ) → IsTag b d → packed_unit d n ≡ packed_unit b n
packed_unit-after_tag b d n k = grind (arith)

packed_units-after_tag : (b d : ℕ) (u : List ℕ) → IsTag b d → packed_units d u ≡ packed_units b u
packed_units-after_tag b d [] k = refl
packed_units-after_tag b d (n ∷ u) k = ap (λ w. w ++ packed_units n u) (packed_unit-after_tag b d n k)

-- a row written at index `n` of a block, of which the first `l` bytes count
pub take-written_block : (block row rest : List ℕ) (n l : ℕ) → n ≤ length block → l ≤ length row
    → take (n + l) (take n block ++ (row ++ rest)) ≡ take n block ++ take l row
take-written_block block row rest n l bound h = grind (arith, length-take-le, take-append-add, take-append-le)

-- ASCII units are their own bytes
packed_units-ascii : (b : ℕ) (u : List ℕ) (a : ℕ) → AreAscii u → (packed_units b (tagged_units b u a) ≡ u) × Each1 IsUnit (tagged_units b u a)
packed_units-ascii b [] a h = (refl, tt)
packed_units-ascii b (x ∷ u) a h =
    let own = tagged-scalar b x (get_or u 0 a) (λ s. omega (arith, s, h.0)) in
    let more = packed_units-ascii x u a h.1 in
    let one : packed_unit b x ≡ x ∷ [] = grind (arith, lt-ltb, h.0) in (
      ap (λ t. packed_unit b t ++ packed_units t (tagged_units x u a)) own ∙ (λ i. one i ++ more.0 i),
      (omega (arith, own, h.0), more.1),
    )

-- a block of ASCII units is its own bytes
pub ascii_block : (u : List ℕ) {low : List ℕ} → length u ≡ 16 → low ≡ map (λ n. min n 0xFF) u → AreAscii low
    → (low ≡ packed_units 0 (take 16 (tagged_block u))) × Each1 IsUnit (tagged_block u)
ascii_block u long narrowed ascii =
    let own = ascii_saturated u (subst AreAscii narrowed ascii) in
    let all = packed_units-ascii 0 u 0xDC00 own in
    let whole = take_all 16 (tagged_block u) (omega (arith, length-tagged_units 0 u 0xDC00, long)) in
    (narrowed ∙ saturated u own ∙ sym (ap (packed_units 0) whole ∙ all.0), all.1)

-- The pieces of tagged units are the encodings of the code points that the units are read as.

-- the piece of a unit that is no surrogate is its encoding
encoding-packed_unit : (b x : ℕ) → x < 0x10000 → ¬ (IsSurrogate x) → encoding x ≡ packed_unit b x
encoding-packed_unit b x h n = grind (arith, cases_lt, encoding_one, encoding_two, encoding_three, lt-ltb, le-ltb)

-- the pieces of a lead and its trail are the encoding of the pair
encoding-packed_pair : (b l t : ℕ) → IsLead l → IsTrail t → encoding (pair l t) ≡ packed_unit b l ++ packed_unit l t
encoding-packed_pair b l t k m = grind (arith, encoding_four, le-ltb, lt-ltb)

-- one code point has the form of its units
point_form : (p : ℕ) {w u : List ℕ} (known : Bool) → p ≤ 0x10FFFF → units_of p ≡ u → encoding p ≡ w → (IsTrue known → ¬ (IsSurrogate p))
    → IsKnownForm w u known
point_form p known range e g scalar = record {
  form = record {
    points = p ∷ [];
    reads = record { clean = omega (arith, range); same_units = append-nil _ ∙ e };
    encoded = append-nil (encoding p) ∙ g;
  };
  scalar = λ k. (scalar k, tt);
}

scalar_first : (b x : ℕ) {y : ℕ} (t : List ℕ) {u : List ℕ} {known : Bool} → x < 0x10000 → ¬ (IsSurrogate x) → y ≡ x
    → IsKnownForm (packed_units x t) u known → IsKnownForm (packed_units b (y ∷ t)) (x ∷ u) known
scalar_first b x t {u} {known} h s e more = subst (λ y. IsKnownForm (packed_units b (y ∷ t)) (x ∷ u) known) (sym e)
    (IsKnownForm-append (packed_unit b x) (packed_units x t) (x ∷ []) u true known known
    (point_form x true (omega (arith, h)) (units_one x h) (encoding-packed_unit b x h s) (λ _. s)) more
    (unpaired-after_no_lead [] x (λ l. s (l.0, omega (arith, l.1)))) (λ k. (refl, k)))

lone_first : (b x a : ℕ) {y : ℕ} (t : List ℕ) {u : List ℕ} {known : Bool} → IsSurrogate x → ¬ (IsLead x × IsTrail (get_or u 0 a))
    → y ≡ x + 0x10000 → (IsTrue known → IsUnit y) → IsKnownForm (packed_units x t) u known
    → IsKnownForm (packed_units b (y ∷ t)) (x ∷ u) known
lone_first b x a t {u} {known} s unpaired e units more = subst (λ y. IsKnownForm (packed_units b (y ∷ t)) (x ∷ u) known) (sym e)
    (IsKnownForm-append (packed_unit b (x + 0x10000)) (packed_units (x + 0x10000) t) (x ∷ []) u known known known
    (point_form x known (omega (arith, s)) (units_one x (omega (arith, s)))
    (encoding_three x (omega (arith, s)) (omega (arith, s)) ∙ sym (packed_unit-lone b x s)) (λ k. omega (arith, e, units k)))
    (subst (λ w. IsKnownForm w u known) (sym (packed_units-after_tag x (x + 0x10000) t (inr (refl, s)))) more)
    (λ m. unpaired (grind (arith, same_from_push [] m.front x m.lead m.ends))) (λ k. (k, k)))

pair_first : (b x y n : ℕ) (t : List ℕ) {u : List ℕ} {known : Bool} → IsLead x → IsTrail y → IsKnownForm (packed_units y t) u known
    → IsKnownForm (packed_units b (tagged b x y ∷ tagged x y n ∷ t)) (x ∷ y ∷ u) known
pair_first b x y n t {u} {known} l k more =
    rw (tagged-lead_before_trail b x y l k, tagged-trail_after_lead x y n k l, ← append_assoc (packed_unit b x) (packed_unit x y) _)
    (IsKnownForm-append (packed_unit b x ++ packed_unit x y) (packed_units y t) (x ∷ y ∷ []) u true known known
    (point_form (pair x y) true (omega (arith, l, k)) (units_pair x y l k) (encoding-packed_pair b x y l k) (λ _ s. omega (arith, l, k, s)))
    more (unpaired-after_no_lead (x ∷ []) y (λ h. omega (arith, h.1, k.0))) (λ h. (refl, h)))

-- the pieces of tagged units are their form, if no pair is divided before them and after them
pub packed_units-form : (b : ℕ) (u : List ℕ) (a : ℕ) (known : Bool) → Each1 (Fits w16) u → ¬ (IsLead b × IsTrail (get_or u 0 a))
    → ¬ (IsLead (get_or (b ∷ u) (length u) 0) × IsTrail a)
    → (IsTrue known → Each1 IsUnit (tagged_units b u a)) → IsKnownForm (packed_units b (tagged_units b u a)) u known
packed_units-form b [] a known f first last units = IsKnownForm-nil known refl
packed_units-form b (x ∷ []) a known f first last units = elim (tag_cases b x a) [
  | scalar_unit o e ↦ scalar_first b x [] f.0.fits o e (IsKnownForm-nil known refl)
  | lone s n e ↦ lone_first b x a [] s n e (λ k. (units k).0) (IsKnownForm-nil known refl)
  | lead l t ↦ absurd (last (l, t))
  | trail l t ↦ absurd (first (l, t))
]
packed_units-form b (x ∷ y ∷ u) a known f first last units = elim (tag_cases b x y) [
  | scalar_unit o e ↦ scalar_first b x (tagged_units x (y ∷ u) a) f.0.fits o e
      (packed_units-form x (y ∷ u) a known f.1 (λ k. o (k.0.0, omega (arith, k.0.1))) last (λ k. (units k).1))
  | lone s n e ↦ lone_first b x a (tagged_units x (y ∷ u) a) s n e (λ k. (units k).0)
      (packed_units-form x (y ∷ u) a known f.1 n last (λ k. (units k).1))
  | lead l t ↦ pair_first b x y (get_or u 0 a) (tagged_units y u a) l t
      (packed_units-form y u a known f.1.1 (λ k. omega (arith, k.0.1, t.0)) last (λ k. (units k).1.1))
  | trail l t ↦ absurd (first (l, t))
]

-- sixteen units of which the last is no lead, or the fifteen before a lead, are encoded by appending their pieces
pub packed_units-read : (w kept : List ℕ) {bytes f u : List ℕ} {at : ℕ} {known more : Bool} (k : ℕ) → IsReadTo (w ++ kept) f u at known
    → at + 16 ≤ length u → ((i : ℕ) → Fits w16 (get_or u i 0))
    → (((k ≡ 16) × ¬ (IsLead (get_or (take 16 (drop at u)) 15 0))) ⊎ ((k ≡ 15) × IsLead (get_or (take 16 (drop at u)) 15 0)))
    → (IsTrue more → Each1 IsUnit (tagged_block (take 16 (drop at u))))
    → bytes ≡ kept ++ packed_units 0 (take k (tagged_block (take 16 (drop at u)))) → IsReadTo (w ++ bytes) f u (at + k) (known && more)
packed_units-read w kept {bytes} {f} {u} {at} {known} {more} k x within fits taken units e =
    let all = take 16 (drop at u) in
    let own = take k all in
    let after = get_or all k 0xDC00 in
    let few : (0 < k) × (k ≤ 16) = grind (arith) in
    let here : get_or all 15 0 ≡ get_or u (at + 15) 0 = get_or-take 16 (drop at u) 15 0 (omega arith) ∙ get_or-drop at u 15 0 in
    let whole : length all ≡ 16 = length-chunk at 16 u within in
    let next : drop (at + 15) u ≡ get_or u (at + 15) 0 ∷ drop (at + 15 + 1) u = drop_more u (at + 15) 0 (omega (arith, within)) in
    let end : at + 16 ≡ at + 15 + 1 = omega arith in
    let divides : ¬ (DividesPair u (at + k)) = elim taken [
      | inl t ↦ rw (t.0, end) (undivided-after_no_lead u (at + 15) (omega (arith, within)) (rw here at t.1))
      | inr t ↦ rw (t.0, next) (unpaired-before_no_trail _ _ (λ l. omega (arith, here, t.1.1, l.0)))
    ] in
    let last : ¬ (IsLead (get_or (0 ∷ own) (length own) 0) × IsTrail after) = grind (arith, take_all, get_or_default_zero) in
    let tags = take-tagged_units k 0 all 0xDC00 in
    let form = packed_units-form 0 own after more (Each1-take (Fits w16) k all (chunk-fits w16 at 16 u fits)) (λ l. omega (arith, l.0.0))
    last (λ t. subst (Each1 IsUnit) tags (Each1-take IsUnit k (tagged_block all) (units t))) in
    let count : k ≡ at + k - at = omega arith in
    let same : own ≡ take (at + k - at) (drop at u) = take-take k 16 (drop at u) few.1 ∙ ap (λ k. take k (drop at u)) count in
    IsReadTo-append x (omega (arith, few)) (omega (arith, few, within)) divides
    (ap (λ v. w ++ v) (e ∙ ap (λ t. kept ++ packed_units 0 t) tags) ∙ sym (append_assoc w kept (packed_units 0 (tagged_units 0 own after))))
    (subst (λ v. IsKnownForm (packed_units 0 (tagged_units 0 own after)) v more) same form)

-- Units with zeros after them: each zero adds a zero byte, and a lead before them is in no pair.

tagged_units-zeros : (b m a : ℕ) → tagged_units b (replicate m 0) a ≡ replicate m 0
tagged_units-zeros b zero a = refl
tagged_units-zeros b (suc m) a = ap (λ t. 0 ∷ t) (tagged_units-zeros 0 m a)

first-padded : (u : List ℕ) (m a : ℕ) → get_or (u ++ replicate (suc m) 0) 0 a ≡ get_or u 0 0
first-padded [] m a = refl
first-padded (x ∷ u) m a = refl

tagged_units-padded : (b : ℕ) (u : List ℕ) (m a : ℕ) → tagged_units b (u ++ replicate (suc m) 0) a ≡ tagged_units b u 0 ++ replicate (suc m) 0
tagged_units-padded b [] m a = tagged_units-zeros b (suc m) a
tagged_units-padded b (x ∷ u) m a = λ i. tagged b x (first-padded u m a i) ∷ tagged_units-padded x u m a i

packed_units-zeros : (b m : ℕ) → packed_units b (replicate m 0) ≡ replicate m 0
packed_units-zeros b zero = refl
packed_units-zeros b (suc m) = ap (λ w. 0 ∷ w) (packed_units-zeros 0 m)

packed_units-padded : (b : ℕ) (t : List ℕ) (m : ℕ) → packed_units b (t ++ replicate m 0) ≡ packed_units b t ++ replicate m 0
packed_units-padded b [] m = packed_units-zeros b m
packed_units-padded b (x ∷ t) m = ap (λ w. packed_unit b x ++ w) (packed_units-padded x t m)
    ∙ sym (append_assoc (packed_unit b x) (packed_units x t) (replicate m 0))

Each1-front : (P : ℕ → Type 0) (u v : List ℕ) → Each1 P (u ++ v) → Each1 P u
Each1-front P [] v e = tt
Each1-front P (x ∷ u) v e = (e.0, Each1-front P u v e.1)

-- a block of fewer than sixteen units and zeros is taken whole
taken_whole : (u : List ℕ) {block : List ℕ} (k : ℕ) → length u < 16 → block ≡ u ++ replicate (16 - length u) 0
    → ((k ≡ 16) × ¬ (IsLead (get_or block 15 0))) ⊎ ((k ≡ 15) × IsLead (get_or block 15 0)) → k ≡ 16
taken_whole u k few is (inl t) = t.0
taken_whole u {block} k few is (inr t) =
    let at : 15 ≡ length u + (15 - length u) = omega arith in
    let zero_at : get_or block 15 0 ≡ 0 = (λ i. get_or (is i) (at i) 0)
    ∙ get_or-append-add u (replicate (16 - length u) 0) (15 - length u) 0
    ∙ get_or-replicate (16 - length u) (15 - length u) 0 0 (omega arith) in
    absurd (omega (arith, zero_at, t.1.0))

-- fewer than sixteen units, encoded as a block with zeros after them, have the form of its bytes without the zeros
pub last_block-form : (w kept u : List ℕ) {block : List ℕ} {more : Bool} (k end : ℕ) → length u < 16 → ((i : ℕ) → Fits w16 (get_or u i 0))
    → block ≡ u ++ replicate (16 - length u) 0
    → ((k ≡ 16) × ¬ (IsLead (get_or block 15 0))) ⊎ ((k ≡ 15) × IsLead (get_or block 15 0)) → (IsTrue more → Each1 IsUnit (tagged_block block))
    → take end w ≡ kept ++ packed_units 0 (take k (tagged_block block)) → end ≤ length w
    → let part = packed_units 0 (tagged_units 0 u 0) in
    (length kept + (16 - length u) ≤ end) × (take (end - (16 - length u)) w ≡ kept ++ part) × IsKnownForm part u more
last_block-form w kept u {block} {more} k end few fits is taken units e within = by (16 - length u) (omega arith) refl
  where
    part : List ℕ
    part = packed_units 0 (tagged_units 0 u 0)

    by : (m : ℕ) → 0 < m → m ≡ 16 - length u → (length kept + m ≤ end) × (take (end - m) w ≡ kept ++ part) × IsKnownForm part u more
    by zero some same = absurd (omega arith)
    by (suc m) some same =
        let zeros : List ℕ = replicate (suc m) 0 in
        let own : block ≡ u ++ zeros = is ∙ ap (λ m. u ++ replicate m 0) (sym same) in
        let long : length block ≡ 16 = omega (arith, ap length own, length-append u zeros, length-replicate {A = ℕ} (suc m) 0) in
        let all : take k (tagged_block block) ≡ tagged_block block = take_all k (tagged_block block)
        (omega (arith, taken_whole u k few is taken, length-tagged_units 0 block 0xDC00, long)) in
        let tags : tagged_block block ≡ tagged_units 0 u 0 ++ zeros = ap tagged_block own ∙ tagged_units-padded 0 u m 0xDC00 in
        let whole : take end w ≡ (kept ++ part) ++ zeros = e ∙ ap (λ t. kept ++ packed_units 0 t) (all ∙ tags)
        ∙ ap (λ v. kept ++ v) (packed_units-padded 0 (tagged_units 0 u 0) (suc m)) ∙ sym (append_assoc kept part zeros) in
        let count : end ≡ length (kept ++ part) + suc m = omega (
          arith,
          length-take-le end w within,
          ap length whole,
          length-append (kept ++ part) zeros,
          length-replicate {A = ℕ} (suc m) 0,
        ) in
        let left : end - suc m ≡ length (kept ++ part) = omega (arith, count) in
        let fit : Each1 (Fits w16) u = subst (Each1 (Fits w16)) (take_all (length u) u (omega arith)) (chunk-fits w16 0 (length u) u fits) in (
          omega (arith, count, length-append kept part),
          sym (take-take (end - suc m) end w (omega arith)) ∙ ap (take (end - suc m)) whole
              ∙ ap (λ n. take n ((kept ++ part) ++ zeros)) left ∙ take-append_seam (kept ++ part) zeros,
          packed_units-form 0 u 0 more fit (λ l. omega (arith, l.0.0)) (λ l. omega (arith, l.1.0))
              (λ t. Each1-front IsUnit (tagged_units 0 u 0) zeros (subst (Each1 IsUnit) tags (units t))),
        )

-- the last units are encoded by appending their form
pub last_units-read : {w part f u : List ℕ} {at : ℕ} {known more : Bool} → IsReadTo w f u at known → at < length u
    → IsKnownForm part (take (length u - at) (drop at u)) more → IsReadTo (w ++ part) f u (length u) (known && more)
last_units-read {w} {part} {f} {u} x some form =
    IsReadTo-append x some (omega arith) (rw (drop_all (length u) u (omega arith)) unpaired-nil_right) refl form
