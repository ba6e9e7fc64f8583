-- Lanes that show which bytes may not follow the three before them.
use Rattle.wtf8.proofs.Common.{◌≡◌, ℕ, zero, suc, ◌%◌, ◌^◌, ◌<◌, ◌≤◌, Bool, true, false, not, ◌&&◌, ◌||◌, cond}
use Rattle.wtf8.proofs.Common.{List, [], ◌∷◌, map, length, get_or, replicate, refl, sym, ◌∙◌, arith, eqb, leb, ltb, bit_and, bit_or}
use Rattle.wtf8.proofs.Common.{zip2, sel_l}
use Rattle.wtf8.proofs.Common.{mask_l, top, nat_tests, Option, None, Some, unwrap_or, IsFirstSet, IsFirstIn, IsSet, NoneIn, false_from_ne_true}
use Rattle.std.proofs.Common.{bit_xor}
use Rattle.wtf8.proofs.lemmas.lanes.SurrogateLanes.{lane_of_bool}
use Rattle.wtf8.specs.private.Utf8Bytes.{MayFollow}

abbrev differ : Bool → Bool → Bool
differ true b = not b
differ false b = b

or_lanes : (a b : Bool) → bit_or (lane_of_bool a) (lane_of_bool b) ≡ lane_of_bool (a || b)
or_lanes a b = grind (arith)

and_lanes : (a b : Bool) → bit_and (lane_of_bool a) (lane_of_bool b) ≡ lane_of_bool (a && b)
and_lanes a b = grind (arith)

xor_lanes : (a b : Bool) → bit_xor (lane_of_bool a) (lane_of_bool b) ≡ lane_of_bool (differ a b)
xor_lanes a b = grind (arith)

set_lane : (a : Bool) → top 7 (lane_of_bool a) ≡ a
set_lane a = grind (arith)

-- One lane: of the byte `b` after `z`, `y` and `x`.

abbrev expected : ℕ → ℕ → ℕ → ℕ
expected z y x = bit_or (bit_or (lane_of_bool (leb 0xC0 x)) (lane_of_bool (leb 0xE0 y))) (lane_of_bool (leb 0xF0 z))

abbrev continues : ℕ → ℕ
continues b = bit_and (lane_of_bool (leb 0x80 b)) (lane_of_bool (ltb b 0xC0))

abbrev invalid_lead : ℕ → ℕ
invalid_lead b = bit_or (bit_and (lane_of_bool (leb 0xC0 b)) (lane_of_bool (ltb b 0xC2))) (lane_of_bool (leb 0xF5 b))

abbrev out_of_range : ℕ → ℕ → ℕ
out_of_range x b = bit_or (lane_of_bool (eqb x (cond (top 7 (lane_of_bool (leb 0xA0 b))) 0xED 0xE0)))
    (lane_of_bool (eqb x (cond (top 7 (lane_of_bool (leb 0x90 b))) 0xF4 0xF0)))

abbrev wrong : ℕ → ℕ → ℕ → ℕ → ℕ
wrong z y x b = bit_or (bit_or (bit_xor (expected z y x) (continues b)) (invalid_lead b)) (out_of_range x b)

abbrev is_asked : ℕ → ℕ → ℕ → Bool
is_asked z y x = (leb 0xC0 x || leb 0xE0 y) || leb 0xF0 z

abbrev is_continuation : ℕ → Bool
is_continuation b = leb 0x80 b && ltb b 0xC0

abbrev is_after_three : ℕ → ℕ → Bool
is_after_three x b = eqb x (cond (leb 0xA0 b) 0xED 0xE0)

abbrev is_after_four : ℕ → ℕ → Bool
is_after_four x b = eqb x (cond (leb 0x90 b) 0xF4 0xF0)

wrong_lane : (z y x b : ℕ) → top 7 (wrong z y x b)
    ≡ (differ (is_asked z y x) (is_continuation b) || ((leb 0xC0 b && ltb b 0xC2) || leb 0xF5 b)) || (is_after_three x b || is_after_four x b)
wrong_lane z y x b = grind (arith, set_lane, or_lanes, and_lanes, xor_lanes)

may_follow : (z y x b : ℕ) → top 7 (wrong z y x b) ≡ false → MayFollow z y x b
may_follow z y x b e =
    let none = sym (wrong_lane z y x b) ∙ e in
    record {
      continues = λ h. (grind (arith, nat_tests, none, h), grind (arith, nat_tests, none, h));
      begins = λ l m n c. grind (arith, nat_tests, none, c);
      leads = λ l. (grind (arith, nat_tests, none), grind (arith, nat_tests, none));
      after_E0 = λ e. grind (arith, nat_tests, none);
      after_ED = λ e. grind (arith, nat_tests, none);
      after_F0 = λ e. grind (arith, nat_tests, none);
      after_F4 = λ e. grind (arith, nat_tests, none);
    }

-- All lanes.

abbrev at_least : ℕ → ℕ → List ℕ → List ℕ
at_least n k a = zip2 (λ a b. lane_of_bool (leb a b)) (replicate n k) a

abbrev below : ℕ → List ℕ → ℕ → List ℕ
below n a k = zip2 (λ a b. lane_of_bool (ltb a b)) a (replicate n k)

abbrev chosen : ℕ → List ℕ → ℕ → ℕ → ℕ → List ℕ
chosen n b k p q = sel_l (map (top 7) (at_least n k b)) (replicate n p) (replicate n q)

abbrev equal_lanes : List ℕ → List ℕ → List ℕ
equal_lanes a b = zip2 (λ a b. lane_of_bool (eqb a b)) a b

abbrev pub wrong_lanes : ℕ → List ℕ → List ℕ → List ℕ → List ℕ → List ℕ
wrong_lanes n z y x b = zip2 bit_or (zip2 bit_or
    (zip2 bit_xor (zip2 bit_or (zip2 bit_or (at_least n 0xC0 x) (at_least n 0xE0 y)) (at_least n 0xF0 z)) (zip2 bit_and (at_least n 0x80 b) (below n b 0xC0)))
    (zip2 bit_or (zip2 bit_and (at_least n 0xC0 b) (below n b 0xC2)) (at_least n 0xF5 b)))
    (zip2 bit_or (equal_lanes x (chosen n b 0xA0 0xED 0xE0)) (equal_lanes x (chosen n b 0x90 0xF4 0xF0)))

length-wrong_lanes : (n : ℕ) (z y x b : List ℕ) → length z ≡ n → length y ≡ n → length x ≡ n → length b ≡ n
    → length (map (top 7) (wrong_lanes n z y x b)) ≡ n
length-wrong_lanes zero [] y x b p q r s = refl
length-wrong_lanes zero (z ∷ zs) y x b p q r s = absurd (omega (arith, p))
length-wrong_lanes (suc n) [] y x b p q r s = absurd (omega arith)
length-wrong_lanes (suc n) (z ∷ zs) [] x b p q r s = absurd (omega arith)
length-wrong_lanes (suc n) (z ∷ zs) (y ∷ ys) [] b p q r s = absurd (omega arith)
length-wrong_lanes (suc n) (z ∷ zs) (y ∷ ys) (x ∷ xs) [] p q r s = absurd (omega arith)
length-wrong_lanes (suc n) (z ∷ zs) (y ∷ ys) (x ∷ xs) (b ∷ bs) p q r s =
    omega (arith, length-wrong_lanes n zs ys xs bs (omega arith) (omega arith) (omega arith) (omega arith))

may_follow_if_unset : (n : ℕ) (z y x b : List ℕ) → length z ≡ n → length y ≡ n → length x ≡ n → length b ≡ n
    → (k : ℕ) → k < n → ¬ (IsSet (map (top 7) (wrong_lanes n z y x b)) k)
    → MayFollow (get_or z k 0) (get_or y k 0) (get_or x k 0) (get_or b k 0)
may_follow_if_unset zero z y x b p q r s k l unset = absurd (omega arith)
may_follow_if_unset (suc n) [] y x b p q r s k l unset = absurd (omega arith)
may_follow_if_unset (suc n) (z ∷ zs) [] x b p q r s k l unset = absurd (omega arith)
may_follow_if_unset (suc n) (z ∷ zs) (y ∷ ys) [] b p q r s k l unset = absurd (omega arith)
may_follow_if_unset (suc n) (z ∷ zs) (y ∷ ys) (x ∷ xs) [] p q r s k l unset = absurd (omega arith)
may_follow_if_unset (suc n) (z ∷ zs) (y ∷ ys) (x ∷ xs) (b ∷ bs) p q r s zero l unset = may_follow z y x b (false_from_ne_true _ unset)
may_follow_if_unset (suc n) (z ∷ zs) (y ∷ ys) (x ∷ xs) (b ∷ bs) p q r s (suc k) l unset =
    may_follow_if_unset n zs ys xs bs (omega arith) (omega arith) (omega arith) (omega arith) k (omega arith) unset

-- each byte before the first set bit of the mask of a block may follow, or each of the block if none is set
pub follows_before_bit : (z y x b : List ℕ) → length z ≡ 32 → length y ≡ 32 → length x ≡ 32 → length b ≡ 32
    → (r : Option ℕ) → IsFirstSet (mask_l (map (top 7) (wrong_lanes 32 z y x b)) % 2 ^ 64) r → (unwrap_or r 32 ≤ 32)
    × ((k : ℕ) → k < unwrap_or r 32 → MayFollow (get_or z k 0) (get_or y k 0) (get_or x k 0) (get_or b k 0))
follows_before_bit z y x b p q r s found first =
    by found (first 32 (map (top 7) (wrong_lanes 32 z y x b)) (omega arith) (length-wrong_lanes 32 z y x b p q r s) refl)
  where
    unset : (n : ℕ) → n ≤ 32 → NoneIn (IsSet (map (top 7) (wrong_lanes 32 z y x b))) 0 n → (k : ℕ) → k < n
        → MayFollow (get_or z k 0) (get_or y k 0) (get_or x k 0) (get_or b k 0)
    unset n le none k l = may_follow_if_unset 32 z y x b p q r s k (omega (arith, le, l)) (none k (omega arith) l)

    by : (r : Option ℕ) → IsFirstIn (IsSet (map (top 7) (wrong_lanes 32 z y x b))) 0 32 r → (unwrap_or r 32 ≤ 32)
        × ((k : ℕ) → k < unwrap_or r 32 → MayFollow (get_or z k 0) (get_or y k 0) (get_or x k 0) (get_or b k 0))
    by None none = (omega arith, unset 32 (omega arith) none)
    by (Some n) h = (omega (arith, h.1), unset n (omega (arith, h.1)) h.0.none_between)
