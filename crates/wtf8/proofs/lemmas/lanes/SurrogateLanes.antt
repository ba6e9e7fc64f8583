-- Lanes that show where a surrogate begins.
use Rattle.wtf8.proofs.Common.{◌≡◌, ◌↔◌, ℕ, zero, suc, ◌+◌, ◌%◌, ◌^◌, ◌<◌, eqb, leb, Bool, false, IsTrue, cond, List, [], ◌∷◌, map}
use Rattle.wtf8.proofs.Common.{length, get_or, replicate, sym, ap, ◌∙◌, arith, le-leb, eq-eqb, eqb-true, length-zip2, get_or-chunk, chunk}
use Rattle.wtf8.proofs.Common.{zip2, mask_l, top, SurrogateAt, refl, Option, get_or-zip2, ◌&&◌, bit_and, subst, and_parts, and_from}
use Rattle.wtf8.proofs.Common.{leb-true, MatchOption, IsFirstIn, IsFirstSet, IsLeast, IsSet, NoneIn, SurrogateInLane}
use Rattle.wtf8.proofs.Common.{◌-◌, ◌≤◌, ◌++◌, take, drop, take_all, length-drop, get_or-drop, cases_lt, inl, inr, None, Some}
use Rattle.std.proofs.lemmas.List.{get_or-take, get_or_past}
use Rattle.wtf8.proofs.lemmas.lanes.Masks.{first_at_offset, IsFirstIn-iff}

-- The search for a surrogate in two vectors, the second shifted by one byte.

-- the byte of a lane after a comparison: FF or 0
abbrev pub lane_of_bool : Bool → ℕ
lane_of_bool b = cond b 255 0

-- FF in each lane that is ED in one vector and at least A0 in the other
abbrev pub surrogate_lanes : ℕ → List ℕ → List ℕ → List ℕ
surrogate_lanes n xs ys =
    zip2 bit_and (zip2 (λ a b. lane_of_bool (eqb a b)) xs (replicate n 0xED)) (zip2 (λ a b. lane_of_bool (leb a b)) (replicate n 0xA0) ys)

abbrev begins_surrogate : ℕ → ℕ → Bool
begins_surrogate x y = eqb x 0xED && leb 0xA0 y

top-bit_and : (a b : Bool) → top 7 (bit_and (lane_of_bool a) (lane_of_bool b)) ≡ a && b
top-bit_and a b = grind (arith)

map_top-surrogate_lanes : (n : ℕ) (xs ys : List ℕ) → length xs ≡ n → length ys ≡ n
    → map (top 7) (surrogate_lanes n xs ys) ≡ zip2 begins_surrogate xs ys
map_top-surrogate_lanes n [] ys p q = refl
map_top-surrogate_lanes n (x ∷ xs) [] p q = absurd (omega arith)
map_top-surrogate_lanes zero (x ∷ xs) (y ∷ ys) p q = absurd (omega arith)
map_top-surrogate_lanes (suc n) (x ∷ xs) (y ∷ ys) p q =
    λ i. top-bit_and (eqb x 0xED) (leb 0xA0 y) i ∷ map_top-surrogate_lanes n xs ys (omega arith) (omega arith) i

-- the first set bit of the mask is the first lane in which a surrogate begins
pub first_begins : (xs ys : List ℕ) → length xs ≡ 32 → length ys ≡ 32 → (r : Option ℕ)
    → IsFirstSet (mask_l (map (top 7) (surrogate_lanes 32 xs ys)) % 2 ^ 64) r → IsFirstIn (SurrogateInLane xs ys) 0 32 r
first_begins xs ys p q r first = IsFirstIn-iff (IsSet (zip2 begins_surrogate xs ys)) (SurrogateInLane xs ys) 32 begins r
    (first 32 (zip2 begins_surrogate xs ys) (omega arith) (length-zip2 begins_surrogate xs ys (p ∙ sym q) ∙ p)
    (ap (λ ms. mask_l ms % 2 ^ 64) (map_top-surrogate_lanes 32 xs ys p q)))
  where
    begins : (k : ℕ) → k < 32 → IsSet (zip2 begins_surrogate xs ys) k ↔ SurrogateInLane xs ys k
    begins k l = subst (λ b. IsTrue b ↔ SurrogateInLane xs ys k)
        (sym (get_or-zip2 begins_surrogate xs ys k 0 0 false (omega (arith, p, l)) (omega (arith, q, l)))) (
          λ e. let parts = and_parts _ _ e in (eqb-true _ 0xED parts.0, leb-true 0xA0 _ parts.1),
          λ h. and_from _ _ (eq-eqb _ 0xED h.0) (le-leb 0xA0 _ h.1),
        )

-- the first lane of the blocks at `i` and `i + 1` gives the first position at which a surrogate begins
pub first_surrogate_at_offset : (w : List ℕ) (i : ℕ) → i + 32 < length w → (r : Option ℕ)
    → IsFirstIn (SurrogateInLane (chunk i 32 w) (chunk (i + 1) 32 w)) 0 32 r
    → MatchOption r (NoneIn (SurrogateAt w) i (i + 32)) (λ k. IsLeast (SurrogateAt w) i (i + k) × (i + k < i + 32))
first_surrogate_at_offset w i bound = first_at_offset (SurrogateAt w) (SurrogateInLane (chunk i 32 w) (chunk (i + 1) 32 w)) i 32 begins
  where
    begins : (k : ℕ) → k < 32 → SurrogateInLane (chunk i 32 w) (chunk (i + 1) 32 w) k ↔ SurrogateAt w (i + k)
    begins k l =
        let next : get_or (chunk (i + 1) 32 w) k 0 ≡ get_or w (i + k + 1) 0 =
        get_or-chunk (i + 1) 32 w k 0 l ∙ ap (λ m. get_or w m 0) (omega arith) in
        let within : i + k + 1 < length w = omega arith in
        rw (get_or-chunk i 32 w k 0 l, next) (λ h. record { within = within; first = h.0; second = h.1 }, λ s. (s.first, s.second))

get_or-append_zeros : (u : List ℕ) (n k : ℕ) → get_or (u ++ replicate n 0) k 0 ≡ get_or u k 0
get_or-append_zeros [] zero k = refl
get_or-append_zeros [] (suc n) zero = refl
get_or-append_zeros [] (suc n) (suc k) = get_or-append_zeros [] n k
get_or-append_zeros (x ∷ u) n zero = refl
get_or-append_zeros (x ∷ u) n (suc k) = get_or-append_zeros u n k

-- in the last bytes, of which all but the first are a block with zeros after them, the first lane gives the first position
pub first_surrogate_in_last : (w : List ℕ) (i : ℕ) → i < length w → length w ≤ i + 32 → (xs ys : List ℕ) (n : ℕ)
    → ys ≡ take (length w - (i + 1)) (drop (i + 1) w) ++ replicate n 0 → xs ≡ get_or w i 0 ∷ take 31 ys → (r : Option ℕ)
    → IsFirstIn (SurrogateInLane xs ys) 0 32 r → MatchOption r ((j : ℕ) → i ≤ j → ¬ (SurrogateAt w j)) (λ k. IsLeast (SurrogateAt w) i (i + k))
first_surrogate_in_last w i bound few xs ys n seconds firsts r first = by r (first_at_offset (SurrogateAt w) (SurrogateInLane xs ys) i 32 begins r first)
  where
    rest : take (length w - (i + 1)) (drop (i + 1) w) ≡ drop (i + 1) w
    rest = take_all (length w - (i + 1)) (drop (i + 1) w) (omega (arith, length-drop (i + 1) w))

    second : (k : ℕ) → get_or ys k 0 ≡ get_or w (i + k + 1) 0
    second k = ap (λ v. get_or v k 0) (seconds ∙ ap (λ v. v ++ replicate n 0) rest)
        ∙ (get_or-append_zeros (drop (i + 1) w) n k ∙ (get_or-drop (i + 1) w k 0 ∙ ap (λ m. get_or w m 0) (omega arith)))

    lane : (k : ℕ) → k < 32 → get_or (get_or w i 0 ∷ take 31 ys) k 0 ≡ get_or w (i + k) 0
    lane zero l = ap (λ m. get_or w m 0) (omega arith)
    lane (suc k) l = get_or-take 31 ys k 0 (omega (arith, l)) ∙ (second k ∙ ap (λ m. get_or w m 0) (omega arith))

    within : (k : ℕ) → 0xA0 ≤ get_or w (i + k + 1) 0 → i + k + 1 < length w
    within k h = elim (cases_lt (i + k + 1) (length w)) [ inl l ↦ l | inr l ↦ absurd (omega (arith, h, get_or_past w (i + k + 1) 0 (omega (arith, l)))) ]

    begins : (k : ℕ) → k < 32 → SurrogateInLane xs ys k ↔ SurrogateAt w (i + k)
    begins k l = rw (ap (λ v. get_or v k 0) firsts ∙ lane k l, second k)
        (λ h. record { within = within k h.1; first = h.0; second = h.1 }, λ s. (s.first, s.second))

    by : (r : Option ℕ) → MatchOption r (NoneIn (SurrogateAt w) i (i + 32)) (λ k. IsLeast (SurrogateAt w) i (i + k) × (i + k < i + 32))
        → MatchOption r ((j : ℕ) → i ≤ j → ¬ (SurrogateAt w j)) (λ k. IsLeast (SurrogateAt w) i (i + k))
    by None none = λ j l s. none j l (omega (arith, s.within, few)) s
    by (Some k) found = found.0
