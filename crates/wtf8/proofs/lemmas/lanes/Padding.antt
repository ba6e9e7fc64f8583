-- Bytes and zeros after them as the lanes of a vector.
use Rattle.wtf8.proofs.Common.{◌≡◌, ℕ, zero, suc, ◌+◌, ◌-◌, ◌*◌, ◌<◌, ◌≤◌, List, ◌∷◌, [], ◌++◌, length, take, drop, replicate, refl, sym, ap}
use Rattle.wtf8.proofs.Common.{◌∙◌, arith, subst, w8, swz_l, pick_l_whole, rules, cases_lt, inl, inr, length-append, length-replicate}
use Rattle.wtf8.proofs.Common.{put_chunk_is, length-chunk, chunk, append_assoc, append-nil, take-append-drop}
use Rattle.std.proofs.lemmas.List.{drop-replicate, replicate-append-replicate}
use Rattle.std.proofs.lemmas.Simd.{SwzOk}
use Rattle.std.specs.Prelude.{⊤}
use Rattle.std.specs.List.{range_with_len}
use lib.Lanes.{pick_l, put_chunk}
use Rattle.wtf8.specs.declared.lanes.padding.TheConstants.{BYTE_SHIFTS}
use Rattle.std.proofs.lemmas.List.{places, same_lists}

-- a fact of each number below `n`
abbrev pub Below : (ℕ → Type 0) → ℕ → Type 0
Below P zero = ⊤
Below P (suc n) = P n × Below P n

pub of_below : (P : ℕ → Type 0) (n k : ℕ) → Below P n → k < n → P k
of_below P zero k h l = absurd (omega arith)
of_below P (suc n) k h l = elim (cases_lt k n) [ inl a ↦ of_below P n k h.1 a | inr a ↦ let e : n ≡ k = omega arith in subst P e h.0 ]

-- a fact of a list of `n` numbers, from the same of its numbers named one by one
pub of_length : (P : List ℕ → Type 0) (u : List ℕ) (n : ℕ) → P (pick_l 0 u (range_with_len 0 n)) → length u ≡ n → P u
of_length P u n p l = subst P (pick_l_whole 0 u n l) p

abbrev indexes : ℕ → List ℕ
indexes n = chunk 0 16 (take (32 - n) (drop n BYTE_SHIFTS))

abbrev sixteen : List ℕ → List ℕ
sixteen u = pick_l 0 u (range_with_len 0 16)

abbrev Drops : List ℕ → ℕ → Type 0
Drops u n = SwzOk w8 16 16 0 (indexes n) × (swz_l w8 16 (sixteen u) 0 (indexes n) ≡ drop n (sixteen u) ++ replicate n 0)

drops : (u : List ℕ) (n : ℕ) → n ≤ 16 → Drops u n
drops u n l = of_below (Drops u) 17 n ((search rules, refl), ((search rules, refl), ((search rules, refl), ((search rules, refl), ((search rules, refl), ((search rules, refl), ((search rules, refl), ((search rules, refl), ((search rules, refl), ((search rules, refl), ((search rules, refl), ((search rules, refl), ((search rules, refl), ((search rules, refl), ((search rules, refl), ((search rules, refl), ((search rules, refl), tt))))))))))))))))) (omega arith)

pub indexes-ok : (n : ℕ) → n ≤ 16 → SwzOk w8 16 16 0 (indexes n)
indexes-ok n l = (drops [] n l).0

pub swz_l-without_first : (u : List ℕ) (n : ℕ) → n ≤ 16 → length u ≡ 16 → swz_l w8 16 u 0 (indexes n) ≡ drop n u ++ replicate n 0
swz_l-without_first u n few long =
    subst (λ u. swz_l w8 16 u 0 (indexes n) ≡ drop n u ++ replicate n 0) (pick_l_whole 0 u 16 long) (drops u n few).1

-- bytes that are stored to the front of zeros
pub stored : (n : ℕ) (w : List ℕ) → n ≤ 16 → n ≤ length w → put_chunk 0 (replicate 16 0) (chunk 0 n w) ≡ take n w ++ replicate (16 - n) 0
stored n w few long =
    let count : length (chunk 0 n w) ≡ n = length-chunk 0 n w (omega (arith, long)) in
    put_chunk_is 0 (replicate 16 0) (chunk 0 n w) (omega (arith, count, few))
    ∙ ap (λ v. take n w ++ v) (ap (λ k. drop k (replicate 16 0)) count ∙ drop-replicate n 16 0)

-- the last `n` bytes, then zeros, without those that are among the first `n`
pub others : (n : ℕ) (w : List ℕ) → n ≤ 16 → n ≤ length w → length w ≤ 2 * n
    → drop (2 * n - length w) (take n (take (length w - (length w - n)) (drop (length w - n) w)) ++ replicate (16 - n) 0)
    ++ replicate (2 * n - length w) 0 ≡ drop n w ++ replicate (16 + n - length w) 0
others n w few least most = same_lists _ _ (search (rules, places)) (λ k d l. grind (arith, places))

-- the first `n` bytes, then the others, picked from two vectors
abbrev Joined : ℕ → List ℕ → List ℕ → Type 0
Joined n picks u =
    pick_l 0 ((take n u ++ replicate (16 - n) 0) ++ (drop n u ++ replicate (16 + n - length u) 0)) picks ≡ u ++ replicate (16 - length u) 0

pub joined_0 : (u : List ℕ) → length u ≡ 0 → replicate 16 0 ≡ u ++ replicate (16 - length u) 0
joined_0 u l = of_length (λ u. replicate 16 0 ≡ u ++ replicate (16 - length u) 0) u 0 refl l

pub joined_1 : (u : List ℕ) → length u ≡ 1 → take 1 u ++ replicate 15 0 ≡ u ++ replicate (16 - length u) 0
joined_1 u l = of_length (λ u. take 1 u ++ replicate 15 0 ≡ u ++ replicate (16 - length u) 0) u 1 refl l

pub joined_2 : (u : List ℕ) → 2 ≤ length u → length u < 4 → Joined 2 (0 ∷ 1 ∷ range_with_len 16 14) u
joined_2 u least most =
    let of = of_length (Joined 2 (0 ∷ 1 ∷ range_with_len 16 14)) u in
    of_below (λ k. length u ≡ 2 + k → Joined 2 (0 ∷ 1 ∷ range_with_len 16 14) u) 2 (length u - 2) (of 3 refl, (of 2 refl, tt)) (omega (arith, most))
    (omega (arith, least))

pub joined_4 : (u : List ℕ) → 4 ≤ length u → length u < 8 → Joined 4 (0 ∷ 1 ∷ 2 ∷ 3 ∷ range_with_len 16 12) u
joined_4 u least most =
    let of = of_length (Joined 4 (0 ∷ 1 ∷ 2 ∷ 3 ∷ range_with_len 16 12)) u in
    of_below (λ k. length u ≡ 4 + k → Joined 4 (0 ∷ 1 ∷ 2 ∷ 3 ∷ range_with_len 16 12) u) 4 (length u - 4)
    (of 7 refl, (of 6 refl, (of 5 refl, (of 4 refl, tt)))) (omega (arith, most)) (omega (arith, least))

pub joined_8 : (u : List ℕ) → 8 ≤ length u → length u < 16
    → Joined 8 (0 ∷ 1 ∷ 2 ∷ 3 ∷ 4 ∷ 5 ∷ 6 ∷ 7 ∷ range_with_len 16 8) u
joined_8 u least most =
    let of = of_length (Joined 8 (0 ∷ 1 ∷ 2 ∷ 3 ∷ 4 ∷ 5 ∷ 6 ∷ 7 ∷ range_with_len 16 8)) u in
    of_below (λ k. length u ≡ 8 + k → Joined 8 (0 ∷ 1 ∷ 2 ∷ 3 ∷ 4 ∷ 5 ∷ 6 ∷ 7 ∷ range_with_len 16 8) u) 8 (length u - 8)
    (of 15 refl, (of 14 refl, (of 13 refl, (of 12 refl, (of 11 refl, (of 10 refl, (of 9 refl, (of 8 refl, tt))))))))
    (omega (arith, most)) (omega (arith, least))

abbrev thirty_two : List ℕ → List ℕ
thirty_two u = pick_l 0 u (range_with_len 0 32)

-- all lanes of two vectors, of which the first is full or the second has none of the bytes
pub joined_16 : (u : List ℕ) → 16 ≤ length u → length u < 32
    → thirty_two ((take 16 u ++ replicate (16 - 16) 0) ++ (drop 16 u ++ replicate (16 + 16 - length u) 0)) ≡ u ++ replicate (32 - length u) 0
joined_16 u least most =
    let zeros = replicate (32 - length u) 0 in
    let both : (take 16 u ++ []) ++ (drop 16 u ++ zeros) ≡ u ++ zeros =
    ap (λ v. v ++ (drop 16 u ++ zeros)) (append-nil (take 16 u))
    ∙ (sym (append_assoc (take 16 u) (drop 16 u) zeros) ∙ ap (λ v. v ++ zeros) (take-append-drop 16 u)) in
    let long : length (u ++ zeros) ≡ 32 = omega (arith, length-append u zeros, length-replicate {A = ℕ} (32 - length u) 0, most) in
    pick_l_whole 0 ((take 16 u ++ []) ++ (drop 16 u ++ zeros)) 32 (ap length both ∙ long) ∙ both

pub joined_zeros : (u : List ℕ) → length u < 16 → thirty_two ((u ++ replicate (16 - length u) 0) ++ replicate 16 0) ≡ u ++ replicate (32 - length u) 0
joined_zeros u few =
    let more = replicate (16 - length u) 0 in
    let sum : 16 - length u + 16 ≡ 32 - length u = omega (arith, few) in
    let both : (u ++ more) ++ replicate 16 0 ≡ u ++ replicate (32 - length u) 0 =
    append_assoc u more (replicate 16 0) ∙ ap (λ v. u ++ v) (replicate-append-replicate (16 - length u) 16 0 ∙ ap (λ k. replicate k 0) sum) in
    let long : length (u ++ replicate (32 - length u) 0) ≡ 32 =
    omega (arith, length-append u (replicate (32 - length u) 0), length-replicate {A = ℕ} (32 - length u) 0, few) in
    pick_l_whole 0 ((u ++ more) ++ replicate 16 0) 32 (ap length both ∙ long) ∙ both

-- the lanes of a vector after a byte, but the last
pub moved_lanes : (b : ℕ) (u : List ℕ) → length u ≡ 32 → pick_l 0 (replicate 32 b ++ u) (0 ∷ range_with_len 32 31) ≡ b ∷ take 31 u
moved_lanes b u l = of_length (λ u. pick_l 0 (replicate 32 b ++ u) (0 ∷ range_with_len 32 31) ≡ b ∷ take 31 u) u 32 refl l
