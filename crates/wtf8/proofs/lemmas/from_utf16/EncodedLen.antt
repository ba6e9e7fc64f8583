-- The length of the form of units: one byte for each unit, and what each adds beyond that.
use Rattle.wtf8.proofs.Common.{◌≡◌, ℕ, ◌+◌, ◌-◌, ◌≤◌, List, [], ◌∷◌, ◌++◌, length, take, drop, get_or, arith, ap, ◌∙◌, sym, length-append, length-drop, take_all}
use Rattle.wtf8.proofs.Common.{drop_all, subst, Bool, false, true, false≢true, Fits, w16, Each1, IsKnownForm, IsReadTo, HasRoomFrom, HasRoomAfter, append-nil}
use Rattle.wtf8.proofs.Common.{vec_capacity, IsForm, cases_lt, inl, inr, refl, zero, suc, ◌*◌, ◌/◌, ◌%◌, ◌<◌, zip2, map, replicate, top, cond, eqb, ltb, sel_l}
use Rattle.wtf8.proofs.Common.{bit_and, nat_tests, sum_l, Each2, Each2-of, IsClean, units, bytes, encoding, IsLead, IsTrail, length-take, take-add, sum_bound}
use Rattle.wtf8.proofs.Common.{get_or-drop}
use Rattle.wtf8.specs.private.EncodedLengths.{each_more, more_bytes, IsCounted}
use Rattle.wtf8.specs.declared.from_utf16.encoded_len.Counted.{Counted}
use Rattle.wtf8.proofs.lemmas.codec.Encoding.{encoding_cases}
use Rattle.wtf8.proofs.lemmas.codec.Readings.{units_one, units_two, lead_of, trail_of, clean-first, clean-rest, no_trail_after_lead, lists_have_lengths, same_form}
use Rattle.wtf8.proofs.lemmas.lanes.AsciiFronts.{Each1-drop, Each1-take}
use Rattle.wtf8.proofs.lemmas.from_utf16.Kernel.{and_lanes}
use Rattle.std.specs.declared.vec.Vec.{Vec}
use Rattle.std.proofs.lemmas.Simd.{chunk-fits}
use Rattle.wtf8.specs.private.PackedUnits.{packed_units, tagged_units}
use Rattle.wtf8.proofs.lemmas.from_utf16.PackedUnits.{last_units-read, packed_units-form}
use Rattle.wtf8.proofs.lemmas.from_utf16.Transcode.{IsKnownForm-nil}

-- the form of the units from index `at` on
abbrev pub rest_form : List ℕ → ℕ → List ℕ
rest_form u at = packed_units 0 (tagged_units 0 (drop at u) 0)

pub rest_form-is : (u : List ℕ) (at : ℕ) → ((i : ℕ) → Fits w16 (get_or u i 0)) → IsKnownForm (rest_form u at) (drop at u) false
rest_form-is u at fits =
    let rest = drop at u in
    let fit : Each1 (Fits w16) rest =
    subst (Each1 (Fits w16)) (take_all (length rest) rest (omega arith)) (chunk-fits w16 at (length rest) u fits) in
    packed_units-form 0 rest 0 false fit (λ l. omega (arith, l.0.0)) (λ l. omega (arith, l.1.0)) (λ t. absurd (false≢true t))

pub rest_form-longer : (u : List ℕ) (at : ℕ) → ((i : ℕ) → Fits w16 (get_or u i 0)) → length u - at ≤ length (rest_form u at)
rest_form-longer u at fits =
    let form = (rest_form-is u at fits).form in
    omega (arith, lists_have_lengths form.points, ap length form.reads.same_units, ap length form.encoded, length-drop at u)

pub rest_form-most : (u : List ℕ) (at : ℕ) → ((i : ℕ) → Fits w16 (get_or u i 0)) → length (rest_form u at) ≤ 3 * length u
rest_form-most u at fits =
    let form = (rest_form-is u at fits).form in
    omega (arith, lists_have_lengths form.points, ap length form.reads.same_units, ap length form.encoded, length-drop at u)

-- if there is room for the units from index `at` on, their form fits
pub rest_form-fits : {Z : Type 0} (old : Vec ℕ Z) (w : List ℕ) {u : List ℕ} {at : ℕ} → ((i : ℕ) → Fits w16 (get_or u i 0))
    → at ≤ length u → HasRoomAfter old w u at → length old.items + length w + length (rest_form u at) ≤ vec_capacity old
rest_form-fits old w {u} {at} fits within room = elim (cases_lt at (length u)) [
  | inl some ↦
      let rest = drop at u in
      let part = rest_form u at in
      let own = rest_form-is u at fits in
      let all : take (length u - at) rest ≡ rest = take_all (length u - at) rest (omega (arith, length-drop at u)) in
      let read = last_units-read room.2 some (subst (λ v. IsKnownForm part v false) (sym all) own) in
      let fit = room.3 (length u) ((old.items ++ w) ++ part) read.form.form in
      omega (arith, fit, length-append (old.items ++ w) part, length-append old.items w)
  | inr none ↦
      let empty : rest_form u at ≡ [] = same_form (rest_form u at) [] [] (subst (IsForm (rest_form u at)) (drop_all at u none)
      (rest_form-is u at fits).form) (IsKnownForm-nil {w = []} true refl).form in
      omega (arith, ap length empty, room.3 at (old.items ++ w) room.2.form.form, length-append old.items w)
]

-- the same if nothing is encoded yet
pub HasRoomAfter-nothing : {Z : Type 0} (old : Vec ℕ Z) {u : List ℕ} {at : ℕ} {known : Bool} → HasRoomFrom old u at known
    → HasRoomAfter old [] u at
HasRoomAfter-nothing old {u} {at} {known} room =
    (room.0, known, subst (λ w. IsReadTo w room.0 u at known) (sym (append-nil old.items)) room.1, room.2)

-- The bytes beyond one that units add, in lanes.

abbrev lanes_of_kind : ℕ → ℕ → List ℕ → List ℕ
lanes_of_kind n k xs = zip2 (λ a b. cond (eqb a b) 0xFFFF 0) (zip2 (λ a b. a / b) xs (replicate n 1024)) (replicate n k)

abbrev lanes_below : List ℕ → List ℕ → List ℕ
lanes_below = zip2 (λ a b. cond (ltb a b) 0xFFFF 0)

abbrev quotients : ℕ → ℕ → List ℕ → List ℕ
quotients n k xs = zip2 (λ a b. a / b) xs (replicate n k)

-- the lesser of each quotient and 1
abbrev ones_from : ℕ → ℕ → List ℕ → List ℕ
ones_from n k xs =
    let own = quotients n k xs in
    let one : List ℕ = replicate n 1 in
    sel_l (map (top 15) (lanes_below own one)) own one

abbrev lanes_and : List ℕ → List ℕ → List ℕ
lanes_and = zip2 bit_and

abbrev lanes_add : List ℕ → List ℕ → List ℕ
lanes_add = zip2 (λ a b. (a + b) % 65536)

abbrev pub more_bytes_lanes : ℕ → List ℕ → List ℕ → List ℕ
more_bytes_lanes n xs ys = sel_l (map (top 15) (lanes_and (lanes_of_kind n 54 xs) (lanes_of_kind n 55 ys))) (replicate n 0)
    (lanes_add (ones_from n 0x80 xs) (ones_from n 0x800 xs))

more_bytes_lane : (x y : ℕ) → cond (top 15 (bit_and (cond (eqb (x / 1024) 54) 0xFFFF 0) (cond (eqb (y / 1024) 55) 0xFFFF 0))) 0
    ((cond (top 15 (cond (ltb (x / 0x80) 1) 0xFFFF 0)) (x / 0x80) 1 + cond (top 15 (cond (ltb (x / 0x800) 1) 0xFFFF 0)) (x / 0x800) 1) % 65536)
    ≡ more_bytes x y
more_bytes_lane x y = rw (and_lanes (eqb (x / 1024) 54) (eqb (y / 1024) 55)) (grind (arith, nat_tests))

pub more_bytes_lanes-zip2 : (n : ℕ) (xs ys : List ℕ) → length xs ≡ n → length ys ≡ n → more_bytes_lanes n xs ys ≡ zip2 more_bytes xs ys
more_bytes_lanes-zip2 n [] ys l m = refl
more_bytes_lanes-zip2 zero (x ∷ xs) ys l m = absurd (omega arith)
more_bytes_lanes-zip2 (suc n) (x ∷ xs) [] l m = absurd (omega arith)
more_bytes_lanes-zip2 (suc n) (x ∷ xs) (y ∷ ys) l m =
    λ i. more_bytes_lane x y i ∷ more_bytes_lanes-zip2 n xs ys (omega arith) (omega arith) i

-- The bytes beyond one of all units of a list.

more_bytes-most : (n a : ℕ) → more_bytes n a ≤ 2
more_bytes-most n a = grind (arith, nat_tests)

zip2-most : (xs ys : List ℕ) → Each1 (λ a. a ≤ 2) (zip2 more_bytes xs ys)
zip2-most [] ys = tt
zip2-most (x ∷ xs) [] = tt
zip2-most (x ∷ xs) (y ∷ ys) = (more_bytes-most x y, zip2-most xs ys)

pub length-each_more : (u : List ℕ) → length (each_more u) ≡ length u
length-each_more [] = refl
length-each_more (n ∷ u) = ap suc (length-each_more u)

each_more-take : (n : ℕ) (u : List ℕ) → n < length u → take n (each_more u) ≡ zip2 more_bytes (take n u) (take n (drop 1 u))
each_more-take zero u l = refl
each_more-take (suc n) [] l = absurd (omega arith)
each_more-take (suc n) (x ∷ []) l = absurd (omega arith)
each_more-take (suc n) (x ∷ y ∷ u) l = ap (λ w. more_bytes x y ∷ w) (each_more-take n (y ∷ u) (omega arith))

-- those of a block, from its units and the units after each
pub each_more-block : (at n : ℕ) (u : List ℕ) → at + n < length u
    → take n (drop at (each_more u)) ≡ zip2 more_bytes (take n (drop at u)) (take n (drop 1 (drop at u)))
each_more-block zero n u l = each_more-take n u (omega arith)
each_more-block (suc at) n [] l = absurd (omega arith)
each_more-block (suc at) n (x ∷ u) l = each_more-block at n u (omega arith)

get_or-each_more : (u : List ℕ) (at : ℕ) → at < length u → get_or (each_more u) at 0 ≡ more_bytes (get_or u at 0) (get_or u (suc at) 0)
get_or-each_more [] at l = absurd (omega arith)
get_or-each_more (x ∷ u) zero l = refl
get_or-each_more (x ∷ u) (suc at) l = get_or-each_more u at (omega arith)

each_more-most : (u : List ℕ) → Each1 (λ a. a ≤ 2) (each_more u)
each_more-most [] = tt
each_more-most (n ∷ u) = (more_bytes-most n (get_or u 0 0), each_more-most u)

sum-append : (xs ys : List ℕ) → sum_l (xs ++ ys) ≡ sum_l xs + sum_l ys
sum-append [] ys = omega arith
sum-append (x ∷ xs) ys = omega (arith, sum-append xs ys)

pub sum-zeros : (n : ℕ) → sum_l (replicate n 0) ≡ 0
sum-zeros zero = refl
sum-zeros (suc n) = omega (arith, sum-zeros n)

pub sum-none : (k : ℕ) (xs : List ℕ) → k ≡ 0 → sum_l (take k xs) ≡ 0
sum-none k xs e = ap (λ k. sum_l (take k xs)) e

-- a sum of a list's first `m` numbers, and of `n` more
pub sum-take_add : (m n : ℕ) (xs : List ℕ) → sum_l (take (m + n) xs) ≡ sum_l (take m xs) + sum_l (take n (drop m xs))
sum-take_add m n xs = ap sum_l (take-add m n xs) ∙ sum-append (take m xs) (take n (drop m xs))

pub sum-most : (n at : ℕ) (u : List ℕ) → sum_l (take n (drop at (each_more u))) ≤ 2 * n
sum-most n at u =
    let left = drop at (each_more u) in
    let most = Each1-take (λ a. a ≤ 2) n left (Each1-drop (λ a. a ≤ 2) at (each_more u) (each_more-most u)) in
    omega (arith, sum_bound 2 (take n left) most, length-take n left)

-- no number is greater than the sum
each_at_most_sum : (k : ℕ) (xs : List ℕ) → sum_l xs ≤ k → Each1 (λ a. a ≤ k) xs
each_at_most_sum k [] l = tt
each_at_most_sum k (x ∷ xs) l = (omega arith, each_at_most_sum k xs (omega arith))

-- lanes with a sum of at most 0x8000 can take one more block
pub lanes_take_more : (lanes xs ys : List ℕ) → sum_l lanes ≤ 0x8000 → Each2 (λ a b. Fits w16 (a + b)) lanes (zip2 more_bytes xs ys)
lanes_take_more lanes xs ys few = by (each_at_most_sum 0x8000 lanes few)
  where
    by : Each1 (λ a. a ≤ 0x8000) lanes → Each2 (λ a b. Fits w16 (a + b)) lanes (zip2 more_bytes xs ys)
    by each = grind (arith, Each2-of, zip2-most)

-- Counting on, and all units counted.

pub IsCounted-next : {u : List ℕ} {at len more : ℕ} → IsCounted u (record { at = at; len = len }) → at < length u
    → more ≡ more_bytes (get_or u at 0) (get_or u (at + 1) 0) → IsCounted u (record { at = at + 1; len = len + 1 + more })
IsCounted-next {u} {at} x l e = record {
  within = omega (arith, l);
  bytes = omega (
    arith,
    get_or-each_more,
    ap (λ i. more_bytes (get_or u at 0) (get_or u i 0)) (suc_is at),
    sum-take_add,
    sum-one,
    get_or-drop {A = ℕ},
    ap (λ i. get_or (each_more u) i 0) (add_zero at),
  );
}
  where
    suc_is : (n : ℕ) → suc n ≡ n + 1
    suc_is n = omega arith

    add_zero : (n : ℕ) → n + 0 ≡ n
    add_zero n = omega arith

    sum-one : (xs : List ℕ) → sum_l (take 1 xs) ≡ get_or xs 0 0
    sum-one [] = refl
    sum-one (x ∷ xs) = omega arith

-- counted up to a later index
pub IsCounted-on : {u : List ℕ} {from : Counted} {at more : ℕ} → IsCounted u from → from.at ≤ at → at ≤ length u
    → more ≡ sum_l (take (at - from.at) (drop from.at (each_more u)))
    → IsCounted u (record { at = at; len = from.len + (at - from.at) + more })
IsCounted-on {u} {from} {at} x order within e =
    let count : from.at + (at - from.at) ≡ at = omega (arith, order) in
    record {
      within = within;
      bytes = omega (arith, sum-take_add, ap (λ k. sum_l (take k (each_more u))) count);
    }

-- units have at most three bytes each
pub IsCounted-most : {u : List ℕ} {counted : Counted} → IsCounted u counted → counted.len ≤ 3 * length u
IsCounted-most {u} {counted} x = omega (arith, x.within, x.bytes, sum-most counted.at 0 u)

-- a unit that is a code point of its own adds all bytes of the code point
more_bytes-point : (p : ℕ) (c : List ℕ) → p < 0x10000 → IsClean (p ∷ c) → length (encoding p) ≡ 1 + more_bytes p (get_or (units c) 0 0)
more_bytes-point p c l x = by (get_or (units c) 0 0) (apart (units c) refl)
  where
    apart : (w : List ℕ) → units c ≡ w → IsLead p → ¬ (IsTrail (get_or w 0 0))
    apart [] e k m = omega (arith, m.0)
    apart (t ∷ r) e k m = no_trail_after_lead p c t r x k m e

    by : (n : ℕ) → (IsLead p → ¬ (IsTrail n)) → length (encoding p) ≡ 1 + more_bytes p n
    by n apart = grind (arith, encoding_cases, nat_tests, apart)

-- of a pair's four bytes the lead adds one and the trail three
more_bytes-pair : (p a : ℕ) → 0x10000 ≤ p → p ≤ 0x10FFFF → (more_bytes (lead_of p) (trail_of p) ≡ 0) × (more_bytes (trail_of p) a ≡ 2)
more_bytes-pair p a l h = (grind (arith, nat_tests), grind (arith, nat_tests))

length-clean : (c : List ℕ) → IsClean c → length (bytes c) ≡ length (units c) + sum_l (each_more (units c))
length-clean [] x = refl
length-clean (p ∷ c) x =
    let rest = length-clean c (clean-rest p c x) in
    elim (cases_lt p 0x10000) [
      | inl l ↦ rw (units_one p l) (omega (arith, length-append (encoding p) (bytes c), rest, more_bytes-point p c l x))
      | inr g ↦ rw (units_two p g)
          (omega (arith, length-append {A = ℕ}, four p g, more_bytes-pair p (get_or (units c) 0 0) g (clean-first p c x)))
    ]
  where
    four : (p : ℕ) → 0x10000 ≤ p → length (encoding p) ≡ 4
    four p g = grind (arith, encoding_cases)

-- all units are counted
pub IsCounted-all : {u : List ℕ} {counted : Counted} → IsCounted u counted → length u ≤ counted.at → (w : List ℕ) → IsForm w u
    → counted.len ≡ length w
IsCounted-all {u} {counted} x all w form = grind (arith, take_all, length-each_more, length-clean)
