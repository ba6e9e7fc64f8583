-- Blocks of units: their masks, their form, and the string after they are appended.
use Rattle.wtf8.proofs.Common.{◌≡◌, ℕ, zero, suc, ◌-◌, ◌%◌, ◌^◌, ◌<◌, ◌≤◌, eqb, Bool, true, false, cond, ◌&&◌, List, [], ◌∷◌, map, length, replicate, Fits, refl}
use Rattle.wtf8.proofs.Common.{sym, ap, ◌∙◌, arith, and_parts, cases_Bool, Each1, zip2, mask_l, top, AreAscii, IsSurrogate, ◌+◌, ◌/◌, ◌++◌, IsTrue, take, drop}
use Rattle.wtf8.proofs.Common.{get_or, subst, take-append-drop, common_steps, append_assoc, append-nil, length-chunk, MeetsAsPair, IsKnownForm, DividesPair, w16}
use Rattle.wtf8.proofs.Common.{get_or-drop, length-take, take-add, AreScalarUnits, take-append-add, min, length-map, take-take, zip2_splat, IsLead, IsReadTo}
use Rattle.wtf8.proofs.Common.{ReadsOn, HasRoomFrom, vec_capacity}
use Rattle.std.specs.declared.vec.Vec.{Vec}
use Rattle.wtf8.specs.declared.from_utf16.Progress.{Progress}
use Rattle.std.proofs.Math.Bool.{and-true}
use Rattle.std.proofs.Math.Seq.{take-suc}
use Rattle.wtf8.proofs.lemmas.lanes.AsciiFronts.{saturated_front}
use Rattle.std.proofs.lemmas.Bool.{eqb-false}
use Rattle.std.proofs.lemmas.List.{get_or-take}
use Rattle.std.proofs.lemmas.Simd.{bitmask_splat, map-map, Each1-get_or}
use Rattle.wtf8.proofs.lemmas.codec.Readings.{form_append-unpaired, meets_by, unpaired-after_no_lead, unpaired-nil_left, MeetsAsPair-back}
use Rattle.wtf8.proofs.lemmas.codec.Scalars.{IsKnownForm-ascii, scalar-append}
use Rattle.std.proofs.lemmas.List.{places, same_lists}
use Rattle.wtf8.proofs.lemmas.lanes.Entries.{get_of}

-- Masks of blocks of units.

-- if the mask is 0, `p` fails in each lane, and so each satisfies `Q`
each_unset : (p : ℕ → Bool) (P Q : ℕ → Type 0) → ((x : ℕ) → P x → p x ≡ false → Q x) → (xs : List ℕ) → Each1 P xs → mask_l (map p xs) ≡ 0
    → Each1 Q xs
each_unset p P Q h [] f e = tt
each_unset p P Q h (x ∷ xs) f e = grind (arith, cases_Bool, h x f.0, each_unset p P Q h xs f.1)

-- if the mask is 0, no unit is a surrogate
pub none_surrogate : (xs : List ℕ) → length xs ≡ 16 → Each1 (Fits w16) xs
    → mask_l (map (top 15) (zip2 (λ a b. cond (eqb a b) 0xFFFF 0) (zip2 (λ a b. a / b) xs (replicate 16 2048)) (replicate 16 27))) % 2 ^ 64
    ≡ 0 → AreScalarUnits xs
none_surrogate xs l f e =
    let kinds = bitmask_splat w16 eqb (map (λ x. x / 2048) xs) 16 27 (length-map xs (λ x. x / 2048) ∙ l) (omega arith)
    ∙ ap mask_l (map-map (λ x. eqb x 27) (λ x. x / 2048) xs) in
    each_unset (λ x. eqb (x / 2048) 27) (Fits w16) (λ n. (n < 0x10000) × ¬ (IsSurrogate n)) own xs f (sym kinds ∙ ap (λ v. mask_l
    (map (top 15) (zip2 (λ a b. cond (eqb a b) 0xFFFF 0) v (replicate 16 27))) % 2 ^ 64) (sym (zip2_splat (λ a b. a / b) xs 16 2048 l)) ∙ e)
  where
    own : (x : ℕ) → Fits w16 x → eqb (x / 2048) 27 ≡ false → (x < 0x10000) × ¬ (IsSurrogate x)
    own x f u = (f.fits, λ s. eqb-false (x / 2048) 27 u (omega (arith, s.0, s.1)))

-- Units encoded part by part: the seams between parts, and the form of all units so far.

pub IsKnownForm-nil : {w : List ℕ} (known : Bool) → w ≡ [] → IsKnownForm w [] known
IsKnownForm-nil known e =
    record { form = record { points = []; reads = record { clean = tt; same_units = refl }; encoded = sym e }; scalar = λ _. tt }

-- before the first unit of a new string
pub read_none : {w u : List ℕ} (known : Bool) → w ≡ [] → IsReadTo w [] u 0 known
read_none known e = record { within = omega arith; divides_no_pair = unpaired-nil_left; form = IsKnownForm-nil known e }

-- no pair is divided after a unit that is no lead
pub undivided-after_no_lead : (u : List ℕ) (j : ℕ) → j < length u → ¬ (IsLead (get_or u j 0)) → ¬ (DividesPair u (j + 1))
undivided-after_no_lead u j within n = grind (arith, common_steps, take-suc, unpaired-after_no_lead)

-- a pair at the seam with the first `n` units of `b` is a pair at the seam with `b`
pub MeetsAsPair-take : (a b : List ℕ) (n : ℕ) → MeetsAsPair a (take n b) → MeetsAsPair a b
MeetsAsPair-take a b n m = grind (arith, common_steps, meets_by, take-append-drop)

-- the form of a part appended to the form of the units before it, without a pair at the seam
pub IsKnownForm-append : (w v a b : List ℕ) (known more both : Bool) → IsKnownForm w a known → IsKnownForm v b more → ¬ (MeetsAsPair a b)
    → (IsTrue both → IsTrue known × IsTrue more) → IsKnownForm (w ++ v) (a ++ b) both
IsKnownForm-append w v a b known more both x y n flags = record {
  form = form_append-unpaired w v a b x.form y.form n;
  scalar = λ t. scalar-append x.form.points y.form.points (x.scalar (flags t).0) (y.scalar (flags t).1);
}

-- no pair is divided after a front and more units if none is divided after these units alone
undivided-after_front : (front u : List ℕ) (k : ℕ) → 0 < k → k ≤ length u → ¬ (DividesPair u k)
    → ¬ (MeetsAsPair (front ++ take k u) (drop k u))
undivided-after_front front u k least within n m =
    n (MeetsAsPair-back front (take k u) (drop k u) (omega (arith, least, within, length-take k u)) m)

-- the units up to `end` are encoded after the form of the units from `at` to `end` was appended
pub IsReadTo-append : {w new front u part : List ℕ} {at end : ℕ} {known more : Bool} → IsReadTo w front u at known → at < end
    → end ≤ length u
    → ¬ (DividesPair u end) → new ≡ w ++ part → IsKnownForm part (take (end - at) (drop at u)) more
    → IsReadTo new front u end (known && more)
IsReadTo-append {w} {new} {front} {u} {part} {at} {end} {known} {more} x order within divides_no_pair after form =
    let back = take (end - at) (drop at u) in
    let count : end ≡ at + (end - at) = omega (arith, order) in
    let whole = IsKnownForm-append w part (front ++ take at u) back known more
    (known && more) x.form form (λ m. x.divides_no_pair (MeetsAsPair-take (front ++ take at u) (drop at u) (end - at) m))
    (and_parts known more) in
    let units : (front ++ take at u) ++ back ≡ front ++ take end u =
    append_assoc front (take at u) back ∙ ap (λ z. front ++ z) (sym (ap (λ k. take k u) count ∙ take-add at (end - at) u)) in
    record {
      within = within;
      divides_no_pair = undivided-after_front front u end (omega (arith, order)) within divides_no_pair;
      form = subst (λ z. IsKnownForm z (front ++ take end u) (known && more)) (sym after)
          (subst (λ z. IsKnownForm (w ++ part) z (known && more)) units whole);
    }

-- `n` units appended as bytes, FF for each above it, then cut after the first `k`: if these are ASCII, they are encoded
pub front_read : {w long new f u low : List ℕ} {at : ℕ} {known : Bool} (k n end : ℕ) → IsReadTo w f u at known → k ≤ n → at + n ≤ length u
    → low ≡ map (λ n. min n 0xFF) (take n (drop at u)) → AreAscii (take k low) → long ≡ w ++ low → end ≡ length w + k → new ≡ take end long
    → IsReadTo new f u (at + k) known
front_read {w} {long} {new} {f} {u} {low} {at} {known} k n end x few within saturated ascii longer cut front = by k few ascii cut
  where
    block : List ℕ
    block = take n (drop at u)

    kept : (k : ℕ) → AreAscii (take k low) → take k low ≡ take k block
    kept k own = ap (take k) saturated ∙ saturated_front k block (subst AreAscii (ap (take k) saturated) own)

    after : (k : ℕ) → AreAscii (take k low) → end ≡ length w + k → new ≡ w ++ take k block
    after k own cut =
        front ∙ ap (take end) longer ∙ ap (λ m. take m (w ++ low)) cut ∙ take-append-add w low k ∙ ap (λ v. w ++ v) (kept k own)

    divides : (j : ℕ) → suc j ≤ n → AreAscii (take (suc j) block) → ¬ (DividesPair u (at + suc j))
    divides j few own =
        let here : at + j + 1 ≡ at + suc j = omega arith in
        let low = Each1-get_or (λ n. n < 0x80) (take (suc j) block) j 0 (omega (arith, length-chunk, length-take {A = ℕ})) own in
        let unit = get_or-take (suc j) block j 0 (omega arith) ∙ get_or-take n (drop at u) j 0 (omega (arith, few))
        ∙ get_or-drop at u j 0 in
        subst (λ k. ¬ (DividesPair u k)) here
        (undivided-after_no_lead u (at + j) (omega (arith, few, within)) (λ l. omega (arith, low, unit, l.0)))

    by : (k : ℕ) → k ≤ n → AreAscii (take k low) → end ≡ length w + k → IsReadTo new f u (at + k) known
    by zero few ascii cut =
        let here : at ≡ at + 0 = omega arith in
        subst (λ k. IsReadTo new f u k known) here
        (subst (λ z. IsReadTo z f u at known) (sym (after zero ascii cut ∙ append-nil w)) x)
    by (suc j) few ascii cut =
        let own : AreAscii (take (suc j) block) = subst AreAscii (kept (suc j) ascii) ascii in
        let count : suc j ≡ at + suc j - at = omega arith in
        let same : take (suc j) block ≡ take (at + suc j - at) (drop at u) =
        take-take (suc j) n (drop at u) few ∙ ap (λ k. take k (drop at u)) count in
        subst (IsReadTo new f u (at + suc j)) (and-true known) (IsReadTo-append x (omega arith) (omega (arith, few, within))
        (divides j few own) (after (suc j) ascii cut)
        (subst (λ v. IsKnownForm (take (suc j) block) v true) same (IsKnownForm-ascii (take (suc j) block) own)))

-- what is read on after bytes and no others is read on after these bytes
pub ReadsOn-nil : (w : List ℕ) {new u : List ℕ} {from to : ℕ} {was is : Bool} → ReadsOn (w ++ []) new u from was to is
    → ReadsOn w new u from was to is
ReadsOn-nil w {new} {u} {from} {to} {was} on front read = on front (subst (λ z. IsReadTo z front u from was) (sym (append-nil w)) read)

-- Steps, one after the other.

-- what loops over steps keep: units are encoded from `from` on as far as `to`, and the capacity is no smaller
abbrev pub KeepsEncoding : {Z : Type 0} → Vec ℕ Z → Vec ℕ Z → List ℕ → Progress → Progress → Type 0
KeepsEncoding old new v from to = record {
  within : to.at ≤ length v;
  read : ReadsOn old.items new.items v from.at from.is_utf8 to.at to.is_utf8;
  begins : take (length old.items) new.items ≡ old.items;
  capacity : vec_capacity old ≤ vec_capacity new;
}

-- room that is there before some units are encoded is there for the units after them
pub HasRoomFrom-after : {Z : Type 0} (old new : Vec ℕ Z) {u : List ℕ} {from to : ℕ} {was is : Bool}
    → ReadsOn old.items new.items u from was to is
    → vec_capacity old ≤ vec_capacity new → HasRoomFrom old u from was → HasRoomFrom new u to is
HasRoomFrom-after old new on larger r = (r.0, on r.0 r.1, λ n w form. omega (arith, larger, r.2 n w form))

-- what begins with a list that begins with `a` begins with `a`
pub begins_after : {a b : List ℕ} (c : List ℕ) → take (length a) b ≡ a → take (length b) c ≡ b → take (length a) c ≡ a
begins_after {a} {b} c x y = same_lists _ _ (grind (arith, places, ap length x, ap length y))
    (λ k d l. grind (arith, places, ap length x, get_of x k d, get_of y k d))
