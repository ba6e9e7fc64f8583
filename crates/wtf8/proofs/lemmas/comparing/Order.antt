-- The orders of code points, bytes and units, and how the first difference of two strings decides them.
use Rattle.wtf8.proofs.Common.{◌≡◌, ℕ, ◌<◌, inl, inr, List, [], ◌∷◌, ◌++◌, refl, sym, ap, ◌∙◌, arith, subst, Ordering, Less}
use Rattle.wtf8.proofs.Common.{nat_cmp, MatchOrdering, slice_cmp, cases_lt, Before, cases_order, ◌↔◌, encoding, bytes, Bool, IsTrue, nat_eq}
use Rattle.wtf8.proofs.Common.{pointwise, bytes_decides, units, Reads, IsWellFormed, bytes-injective, ◌≢◌, zero, suc, drop}
use Rattle.wtf8.proofs.Common.{units_of, IsMismatch, SupplementaryBegins, true, false, ◌⊎◌, length, take, length-append, append_assoc}
use Rattle.wtf8.proofs.Common.{false≢true, take-append-drop, slice_get, option_cmp, true≢false, common_steps}
use Rattle.wtf8.proofs.lemmas.lanes.ListOrder.{cmp_less, cmp_greater, slice_cmp-less, slice_cmp-greater, cmp-append_left, mismatch-cons}
use Rattle.wtf8.proofs.lemmas.lanes.ListOrder.{order_at_mismatch}
use Rattle.std.proofs.lemmas.Cmp.{nat_cmp_total, tied_itself}
use Rattle.std.specs.Bool.{beq}
use Rattle.std.specs.Ordering.{is_ge, is_gt, is_le, is_lt}
use Rattle.wtf8.proofs.lemmas.codec.Encoding.{encoding_cases, encoding_same, length-encoding_bounds}
use Rattle.wtf8.proofs.lemmas.codec.Readings.{same_reading, units-cons_one, units-cons_two, units-append}
use Rattle.wtf8.proofs.lemmas.strings.Positions.{cut_at, boundary_from_byte, points_after}

-- What a comparison of lists of numbers says about the order `Before`.

MatchOrdering-cons : (x y : ℕ) (xs ys : List ℕ) → x ≡ y → (o : Ordering) → MatchOrdering o (Before xs ys) (xs ≡ ys) (Before ys xs)
    → MatchOrdering o (Before (x ∷ xs) (y ∷ ys)) (x ∷ xs ≡ y ∷ ys) (Before (y ∷ ys) (x ∷ xs))
MatchOrdering-cons x y xs ys e o h = grind (arith)

-- a comparison decides which list is before the other
pub order_of : (c d : List ℕ) → MatchOrdering (slice_cmp nat_cmp c d) (Before c d) (c ≡ d) (Before d c)
order_of [] [] = refl
order_of [] (y ∷ ys) = tt
order_of (x ∷ xs) [] = tt
order_of (x ∷ xs) (y ∷ ys) =
    grind (arith, common_steps, cases_order, tied_itself, nat_cmp_total, MatchOrdering-cons, cmp_less, cmp_greater, order_of xs ys)

-- the result `o` of a comparison decides which list is before the other
pub order_of_result : (o : Ordering) (c d : List ℕ) → o ≡ slice_cmp nat_cmp c d → MatchOrdering o (Before c d) (c ≡ d) (Before d c)
order_of_result o c d e = grind (arith, order_of)

-- what the four tests of a comparison's result say
pub less_test : (o : Ordering) (c d : List ℕ) → o ≡ slice_cmp nat_cmp c d → IsTrue (is_lt o) ↔ Before c d
less_test o c d e = (λ t. grind (arith, order_of_result o c d e), λ h. ap is_lt (e ∙ slice_cmp-less c d h))

pub greater_test : (o : Ordering) (c d : List ℕ) → o ≡ slice_cmp nat_cmp c d → IsTrue (is_gt o) ↔ Before d c
greater_test o c d e = (λ t. grind (arith, order_of_result o c d e), λ h. ap is_gt (e ∙ slice_cmp-greater c d h))

pub at_most_test : (o : Ordering) (c d : List ℕ) → o ≡ slice_cmp nat_cmp c d → IsTrue (is_le o) ↔ ¬ (Before d c)
at_most_test o c d e = grind (arith, order_of_result o c d e, slice_cmp-greater)

pub at_least_test : (o : Ordering) (c d : List ℕ) → o ≡ slice_cmp nat_cmp c d → IsTrue (is_ge o) ↔ ¬ (Before c d)
at_least_test o c d e = grind (arith, order_of_result o c d e, slice_cmp-less)

-- Encodings compare byte by byte as their code points compare.

-- the encoding of a smaller code point comes first, whatever follows it
before_encoding : (p q : ℕ) (r s : List ℕ) → p < q → Before (encoding p ++ r) (encoding q ++ s)
before_encoding p q r s l = grind (arith, encoding_cases)

Before-nil_encoding : (q : ℕ) (s : List ℕ) → Before [] (encoding q ++ s)
Before-nil_encoding q s = grind (arith, encoding_cases)

-- bytes compare as code points
pub cmp-bytes : (c d : List ℕ) → slice_cmp nat_cmp (bytes c) (bytes d) ≡ slice_cmp nat_cmp c d
cmp-bytes [] [] = refl
cmp-bytes [] (q ∷ d) = slice_cmp-less [] (bytes (q ∷ d)) (Before-nil_encoding q (bytes d))
cmp-bytes (p ∷ c) [] = slice_cmp-greater (bytes (p ∷ c)) [] (Before-nil_encoding p (bytes c))
cmp-bytes (p ∷ c) (q ∷ d) = grind (arith, cases_order, cmp-append_left, slice_cmp-less, before_encoding, slice_cmp-greater, cmp-bytes c d)

-- one encoding is before another exactly if its code points are
pub before_bytes : (c d : List ℕ) → Before (bytes c) (bytes d) ↔ Before c d
before_bytes c d = grind (arith, order_of_result Less c d, order_of_result Less (bytes c) (bytes d), cmp-bytes, slice_cmp-less)

-- Strings compared by their bytes: the code points and units.

-- two byte strings are equal exactly if their code points are, and if their units are
pub equal_points : (r : Bool) (c d : List ℕ) {w v : List ℕ} → bytes c ≡ w → bytes d ≡ v → r ≡ pointwise nat_eq w v → IsTrue r ↔ (c ≡ d)
equal_points r c d {w} {v} e f h =
    (λ t. bytes-injective c d (e ∙ ((bytes_decides w v).0 (sym h ∙ t) ∙ sym f)), λ s. h ∙ (bytes_decides w v).1 (sym e ∙ (ap bytes s ∙ f)))

pub equal_units : (r : Bool) {c d u t w v : List ℕ} → Reads c u → Reads d t → bytes c ≡ w → bytes d ≡ v → r ≡ pointwise nat_eq w v
    → IsTrue r ↔ (u ≡ t)
equal_units r {c} {d} {u} {t} x y e f h = grind (arith, equal_points, same_reading)

-- byte strings compare as their code points
pub cmp_points : (c d : List ℕ) {w v : List ℕ} → bytes c ≡ w → bytes d ≡ v → slice_cmp nat_cmp w v ≡ slice_cmp nat_cmp c d
cmp_points c d {w} {v} e f = ap (λ x. slice_cmp nat_cmp x v) (sym e) ∙ (ap (slice_cmp nat_cmp (bytes c)) (sym f) ∙ cmp-bytes c d)

-- the result of a comparison of bytes says which code points are before the others
pub points_order : (r : Ordering) (c d : List ℕ) {w v : List ℕ} → bytes c ≡ w → bytes d ≡ v → r ≡ slice_cmp nat_cmp w v
    → MatchOrdering r (Before c d) (c ≡ d) (Before d c)
points_order r c d e f h = order_of_result r c d (h ∙ cmp_points c d e f)

-- If the code points at the first difference have equally many units, bytes compare as units.

-- `x` and `y` are both below `n` or both not
abbrev pub BothBelow : ℕ → ℕ → ℕ → Type 0
BothBelow n x y = (x < n) ↔ (y < n)

-- two code points of one unit each, or of two each, compare as their units
before_units : (p q : ℕ) (c d : List ℕ) → p < q → BothBelow 0x10000 p q → Before (units (p ∷ c)) (units (q ∷ d))
before_units p q c d l both = grind (arith, cases_lt, units-cons_one, units-cons_two)

-- at the first difference both bytes are below F0 or neither is
abbrev pub SameSideOfF0 : List ℕ → List ℕ → Type 0
SameSideOfF0 [] v = Unit {0}
SameSideOfF0 (x ∷ w) [] = Unit {0}
SameSideOfF0 (x ∷ w) (y ∷ v) = (x ≡ y → SameSideOfF0 w v) × (x ≢ y → BothBelow 0xF0 x y)

SameSideOfF0-cancel_left : (f w v : List ℕ) → SameSideOfF0 (f ++ w) (f ++ v) → SameSideOfF0 w v
SameSideOfF0-cancel_left [] w v h = h
SameSideOfF0-cancel_left (x ∷ f) w v h = SameSideOfF0-cancel_left f w v (h.0 refl)

SameSideOfF0-encoding : (p q : ℕ) (r s : List ℕ) → SameSideOfF0 (encoding p ++ r) (encoding q ++ s) → BothBelow 0x10000 p q
SameSideOfF0-encoding p q r s h = grind (arith, encoding_cases)

Before-nil_units : (q : ℕ) (d : List ℕ) → Before [] (units (q ∷ d))
Before-nil_units q d = grind (arith, cases_lt, units-cons_one, units-cons_two)

-- code points compare as units if their bytes satisfy `SameSideOfF0`
pub points_as_units : (c d : List ℕ) → SameSideOfF0 (bytes c) (bytes d) → slice_cmp nat_cmp c d ≡ slice_cmp nat_cmp (units c) (units d)
points_as_units [] [] h = refl
points_as_units [] (q ∷ d) h = sym (slice_cmp-less [] (units (q ∷ d)) (Before-nil_units q d))
points_as_units (p ∷ c) [] h = sym (slice_cmp-greater (units (p ∷ c)) [] (Before-nil_units p c))
points_as_units (p ∷ c) (q ∷ d) h =
    let row = SameSideOfF0-encoding p q (bytes c) (bytes d) h in
    elim (cases_order q p) [
      | inl same ↦
          let rest = points_as_units c d (SameSideOfF0-cancel_left (encoding p) (bytes c) (bytes d) (rw same at h)) in
          rw same (cmp-append_left (p ∷ []) c d ∙ rest ∙ sym (cmp-append_left (units_of p) (units c) (units d)))
      | inr n ↦ grind (arith, slice_cmp-less, slice_cmp-greater, before_units q p d c, before_units p q c d)
    ]

pub same_side_at_mismatch : (w v : List ℕ) (at : ℕ)
    → IsMismatch w v at → SupplementaryBegins w at ↔ SupplementaryBegins v at → SameSideOfF0 w v
same_side_at_mismatch [] v at d both = tt
same_side_at_mismatch (x ∷ w) [] at d both = tt
same_side_at_mismatch (x ∷ w) (y ∷ v) zero d both = grind (arith, cases_lt)
same_side_at_mismatch (x ∷ w) (y ∷ v) (suc n) d both =
    grind (arith, mismatch-cons, same_side_at_mismatch w v n)

-- The order of units: by the bytes at the first difference, or by the parts of both strings from there on.

-- if the bytes of `d` begin with the bytes of `front`, its code points begin with `front`
points_from_bytes : (front d rest : List ℕ) → bytes d ≡ bytes front ++ rest → (c : List ℕ) × (d ≡ front ++ c) × (bytes c ≡ rest)
points_from_bytes [] d rest e = (d, refl, e)
points_from_bytes (p ∷ front) [] rest e = absurd (omega (arith, simp length-append at (ap length e), length-encoding_bounds p))
points_from_bytes (p ∷ front) (q ∷ d) rest e =
    let heads = encoding_same q p (bytes d) (bytes front ++ rest) (e ∙ append_assoc (encoding p) (bytes front) rest) in
    let more = points_from_bytes front d rest heads.1 in (more.0, ap (λ k. k ∷ d) heads.0 ∙ ap (λ c. p ∷ c) more.1, more.2)

-- the common front of two strings up to a boundary, and the rest of each
pub record CommonFront (c d : List ℕ) (at : ℕ) : Type 0 where
  pub front : List ℕ
  pub own : List ℕ
  pub others : List ℕ
  pub own_joined : c ≡ front ++ own
  pub others_joined : d ≡ front ++ others
  pub front_len : length (bytes front) ≡ at

common_front_at_lead_byte : {w v : List ℕ} (h : IsWellFormed w) (k : IsWellFormed v) (at : ℕ) → take at w ≡ take at v
    → SupplementaryBegins w at → CommonFront h.points k.points at
common_front_at_lead_byte {w} {v} h k at same pair =
    let cut = cut_at h at (boundary_from_byte h at (omega (arith, pair.0)) (λ _. record { start = inr (omega (arith, pair.1)) })) in
    let front : bytes cut.front ≡ take at v = ap bytes (sym cut.before_points) ∙ (cut.before.encoded ∙ same) in
    let more = points_from_bytes cut.front k.points (drop at v)
    (k.encoded ∙ (sym (take-append-drop at v) ∙ ap (λ f. f ++ drop at v) (sym front))) in
    record {
      front = cut.front;
      own = cut.back;
      others = more.0;
      own_joined = cut.points;
      others_joined = more.1;
      front_len = cut.splits.front_len;
    }

CommonFront-swap : {c d : List ℕ} {at : ℕ} → CommonFront c d at → CommonFront d c at
CommonFront-swap p = grind (arith)

-- the rests compare by units as the whole strings do
pub rests_order : {w v x y : List ℕ} (h : IsWellFormed w) (k : IsWellFormed v) (at : ℕ) → CommonFront h.points k.points at
    → (i : IsWellFormed x) (j : IsWellFormed y) → x ≡ drop at w → y ≡ drop at v
    → slice_cmp nat_cmp (units i.points) (units j.points) ≡ slice_cmp nat_cmp (units h.points) (units k.points)
rests_order h k at p i j e f =
    let own : units h.points ≡ units p.front ++ units i.points =
    cc (p.own_joined, units-append p.front p.own, points_after h i p.front p.own at p.own_joined p.front_len e) in
    let others : units k.points ≡ units p.front ++ units j.points =
    cc (p.others_joined, units-append p.front p.others, points_after k j p.front p.others at p.others_joined p.front_len f) in
    cc (own, others, cmp-append_left (units p.front) (units i.points) (units j.points))

pub iff_from_equal : {P Q : Type 0} (a b : Bool) → IsTrue a ↔ P → IsTrue b ↔ Q → beq a b ≡ true → P ↔ Q
iff_from_equal a b p q e = grind (arith, false≢true)

either_from_unequal : {P Q : Type 0} (a b : Bool) → IsTrue a ↔ P → IsTrue b ↔ Q → beq a b ≡ false → P ⊎ Q
either_from_unequal a b p q e = grind (arith, true≢false)

-- if a code point of two units begins at the first difference in exactly one string, that is a boundary of both
pub common_front_at_mismatch : {w v : List ℕ} (h : IsWellFormed w) (k : IsWellFormed v) (at : ℕ) → IsMismatch w v at → (a b : Bool)
    → IsTrue a ↔ SupplementaryBegins w at → IsTrue b ↔ SupplementaryBegins v at → beq a b ≡ false → CommonFront h.points k.points at
common_front_at_mismatch h k at d a b p q e = grind (arith, either_from_unequal, common_front_at_lead_byte, CommonFront-swap)

-- if one begins there in both strings or in neither, the bytes at the first difference compare as the units
pub bytes_order : {w v : List ℕ} (h : IsWellFormed w) (k : IsWellFormed v) (at : ℕ)
    → IsMismatch w v at → SupplementaryBegins w at ↔ SupplementaryBegins v at
    → option_cmp nat_cmp (slice_get w at) (slice_get v at) ≡ slice_cmp nat_cmp (units h.points) (units k.points)
bytes_order {w} {v} h k at d both =
    let rows : SameSideOfF0 (bytes h.points) (bytes k.points) = subst (λ x. SameSideOfF0 x (bytes k.points)) (sym h.encoded)
    (subst (SameSideOfF0 w) (sym k.encoded) (same_side_at_mismatch w v at d both)) in
    order_at_mismatch w v at d ∙ (cmp_points h.points k.points h.encoded k.encoded ∙ points_as_units h.points k.points rows)
