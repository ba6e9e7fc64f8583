-- Bytes each of which may follow the three before it are UTF-8.
use Rattle.wtf8.proofs.Common.{◌≡◌, ℕ, zero, suc, ◌+◌, ◌-◌, ◌*◌, ◌/◌, ◌%◌, ◌<◌, ◌≤◌, inl, inr, List, [], ◌∷◌, ◌++◌, length, get_or, sym, ap}
use Rattle.wtf8.proofs.Common.{refl, ◌∙◌, arith, cases_lt, IsUtf8, IsCodePoint, IsSurrogate, encoding, encoding_is_encode, IsUtf8-from_ascii}
use Rattle.wtf8.proofs.Common.{chunk, get_or-chunk, take, AreAscii, subst, length-take}
use Rattle.std.proofs.lemmas.List.{get_or-take}
use Rattle.std.proofs.lemmas.Simd.{Each1-get_or}
use Rattle.std.proofs.lemmas.Str.Ascii.{IsAscii-from_reads}
use Rattle.wtf8.proofs.lemmas.codec.Encoding.{encoding_one, encoding_two, encoding_three, encoding_four}
use Rattle.wtf8.proofs.lemmas.lanes.AsciiFronts.{ascii_in_block}
use Rattle.wtf8.proofs.lemmas.strings.Surrogates.{scalar_true}
use Rattle.wtf8.specs.private.Utf8Bytes.{MayFollow, FollowsAt, FollowsIn, FollowsUpTo, IsWholeAfter, IsContinuation}

-- each byte of `w` after `z`, `y` and `x` may follow, and none is missing at the end
abbrev Follow : ℕ → ℕ → ℕ → List ℕ → Type 0
Follow z y x [] = IsWholeAfter z y x
Follow z y x (b ∷ w) = MayFollow z y x b × Follow y x b w

text_from_encoding : (p : ℕ) (front w : List ℕ) → IsCodePoint p → ¬ (IsSurrogate p) → encoding p ≡ front → IsUtf8 w → IsUtf8 (front ++ w)
text_from_encoding p front w r n e u =
    (p ∷ u.0, (rw (scalar_true p r n) u.1.0, λ i. (sym (encoding_is_encode p) ∙ e) i ++ u.1.1 i))

text_one : (a : ℕ) (w : List ℕ) → a < 0x80 → IsUtf8 w → IsUtf8 (a ∷ w)
text_one a w l = text_from_encoding a (a ∷ []) w (omega arith) (λ s. omega (arith, s, l)) (encoding_one a l)

text_two : (a b : ℕ) (w : List ℕ) → 0xC2 ≤ a → a < 0xE0 → IsContinuation b → IsUtf8 w → IsUtf8 (a ∷ b ∷ w)
text_two a b w l m c =
    let p = (a - 0xC0) * 64 + (b - 0x80) in
    let lead : 0xC0 + p / 64 ≡ a = omega (arith, l, m, c) in
    let next : 0x80 + p % 64 ≡ b = omega (arith, c) in
    text_from_encoding p (a ∷ b ∷ []) w (omega (arith, m, c)) (λ s. omega (arith, s, m, c))
    (encoding_two p (omega (arith, l)) (omega (arith, m, c)) ∙ (λ i. lead i ∷ next i ∷ []))

text_three : (x y a b c : ℕ) (w : List ℕ) → 0xE0 ≤ a → a < 0xF0 → MayFollow x y a b → IsContinuation b → IsContinuation c → IsUtf8 w
    → IsUtf8 (a ∷ b ∷ c ∷ w)
text_three x y a b c w l m f d e =
    let p = (a - 0xE0) * 4096 + (b - 0x80) * 64 + (c - 0x80) in
    let lead : 0xE0 + p / 4096 ≡ a = omega (arith, l, d, e) in
    let next : 0x80 + p / 64 % 64 ≡ b = omega (arith, d, e) in
    let last : 0x80 + p % 64 ≡ c = omega (arith, e) in
    let least : 0x800 ≤ p = elim (cases_lt a 0xE1) [ inl k ↦ omega (arith, f.after_E0 (omega (arith, l, k))) | inr k ↦ omega (arith, k) ] in
    let plain : ¬ (IsSurrogate p) = λ s. elim (cases_lt a 0xED) [
      | inl k ↦ omega (arith, s, k, d, e)
      | inr k ↦ elim (cases_lt a 0xEE) [ inl j ↦ omega (arith, s, f.after_ED (omega (arith, k, j)), k, e) | inr j ↦ omega (arith, s, j) ]
    ] in
    text_from_encoding p (a ∷ b ∷ c ∷ []) w (omega (arith, m, d, e)) plain
    (encoding_three p least (omega (arith, m, d, e)) ∙ (λ i. lead i ∷ next i ∷ last i ∷ []))

text_four : (x y a b c d : ℕ) (w : List ℕ) → 0xF0 ≤ a → a < 0xF5 → MayFollow x y a b → IsContinuation b → IsContinuation c → IsContinuation d
    → IsUtf8 w → IsUtf8 (a ∷ b ∷ c ∷ d ∷ w)
text_four x y a b c d w l m f g h k =
    let upper = (a - 0xF0) * 4096 + (b - 0x80) * 64 + (c - 0x80) in
    let p = upper * 64 + (d - 0x80) in
    let front : p / 64 ≡ upper = omega (arith, k) in
    let split : p / 262144 ≡ upper / 4096 = omega (arith, front) in
    let middle : p / 4096 ≡ upper / 64 = omega (arith, front) in
    let lead : 0xF0 + p / 262144 ≡ a = rw split (omega (arith, l, g, h)) in
    let next : 0x80 + p / 4096 % 64 ≡ b = rw middle (omega (arith, g, h)) in
    let third : 0x80 + p / 64 % 64 ≡ c = rw front (omega (arith, h)) in
    let last : 0x80 + p % 64 ≡ d = omega (arith, k) in
    let least : 0x10000 ≤ p = elim (cases_lt a 0xF1) [ inl j ↦ omega (arith, f.after_F0 (omega (arith, l, j))) | inr j ↦ omega (arith, j) ] in
    let most : p ≤ 0x10FFFF = elim (cases_lt a 0xF4) [ inl j ↦ omega (arith, j, g, h, k) | inr j ↦ omega (arith, f.after_F4 (omega (arith, m, j)), m, h, k) ] in
    text_from_encoding p (a ∷ b ∷ c ∷ d ∷ []) w most (λ s. omega (arith, s, least))
    (encoding_four p least ∙ (λ i. lead i ∷ next i ∷ third i ∷ last i ∷ []))

-- the text that begins with a byte, if what follows the encoding of at most `n` bytes is text
module _ (n : ℕ) (rest : (z y x : ℕ) (w : List ℕ) → length w ≤ n → IsWholeAfter z y x → Follow z y x w → IsUtf8 w) where
  after_three : (x a b c : ℕ) (w : List ℕ) → length w ≤ n → (y : ℕ) → 0xF0 ≤ a → a < 0xF5 → MayFollow x y a b → IsContinuation b
      → IsContinuation c → Follow a b c w → IsUtf8 (a ∷ b ∷ c ∷ w)
  after_three x a b c [] s y l m f g h v = absurd (omega (arith, v, l))
  after_three x a b c (d ∷ w) s y l m f g h v =
      let k = v.0.continues (inr (inr l)) in
      text_four x y a b c d w l m f g h k (rest b c d w (omega (arith, s)) (omega (arith, g, h, k)) v.1)

  after_two : (x y a b : ℕ) (w : List ℕ) → length w ≤ n → 0xE0 ≤ a → a < 0xF5 → MayFollow x y a b → IsContinuation b → Follow y a b w
      → IsUtf8 (a ∷ b ∷ w)
  after_two x y a b [] s l m f g v = absurd (omega (arith, v, l))
  after_two x y a b (c ∷ w) s l m f g v =
      let h = v.0.continues (inr (inl l)) in
      elim (cases_lt a 0xF0) [
        | inl j ↦ text_three x y a b c w l j f g h (rest a b c w (omega (arith, s)) (omega (arith, j, g, h)) v.1)
        | inr j ↦ after_three x a b c w (omega (arith, s)) y j m f g h v.1
      ]

  after_lead : (x y a : ℕ) (w : List ℕ) → length w ≤ n → y < 0xE0 → 0xC2 ≤ a → a < 0xF5 → Follow x y a w → IsUtf8 (a ∷ w)
  after_lead x y a [] s o l m v = absurd (omega (arith, v, l))
  after_lead x y a (b ∷ w) s o l m v =
      let g = v.0.continues (inl (omega (arith, l))) in
      elim (cases_lt a 0xE0) [
        | inl j ↦ text_two a b w l j g (rest y a b w (omega (arith, s)) (omega (arith, o, j, g)) v.1)
        | inr j ↦ after_two x y a b w (omega (arith, s)) j m v.0 g v.1
      ]

  text_step : (z y x : ℕ) (w : List ℕ) → length w ≤ suc n → IsWholeAfter z y x → Follow z y x w → IsUtf8 w
  text_step z y x [] s whole v = IsUtf8-from_ascii [] (λ i. omega arith)
  text_step z y x (a ∷ w) s whole v = elim (cases_lt a 0x80) [
    | inl l ↦ text_one a w l (rest y x a w (omega (arith, s)) (omega (arith, whole, l)) v.1)
    | inr l ↦ elim (cases_lt a 0xC0) [
      | inl m ↦ absurd (v.0.begins whole.2 whole.1 whole.0 (l, m))
      | inr m ↦ let leads = v.0.leads m in after_lead y x a w (omega (arith, s)) (omega (arith, whole)) leads.0 leads.1 v.1
    ]
  ]

text_from_follow : (n z y x : ℕ) (w : List ℕ) → length w ≤ n → IsWholeAfter z y x → Follow z y x w → IsUtf8 w
text_from_follow zero z y x [] s whole v = IsUtf8-from_ascii [] (λ i. omega arith)
text_from_follow zero z y x (b ∷ w) s whole v = absurd (omega (arith, s))
text_from_follow (suc n) z y x w s whole v = text_step n (text_from_follow n) z y x w s whole v

follow_from_indexes : (z y x : ℕ) (w : List ℕ) → FollowsIn (z ∷ y ∷ x ∷ w) 0 (length w)
    → IsWholeAfter (get_or (z ∷ y ∷ x ∷ w) (length w) 0) (get_or (z ∷ y ∷ x ∷ w) (suc (length w)) 0)
    (get_or (z ∷ y ∷ x ∷ w) (suc (suc (length w))) 0) → Follow z y x w
follow_from_indexes z y x [] h whole = whole
follow_from_indexes z y x (b ∷ w) h whole =
    (h 0 (omega arith) (omega arith), follow_from_indexes y x b w (λ i l m. h (suc i) (omega arith) (omega (arith, m))) whole)

-- bytes may follow in a list if they may in one that begins with zeros and these bytes
follows_in_same : (v w : List ℕ) (n : ℕ) → n ≤ length w
    → ((j : ℕ) → j < suc (suc (suc n)) → get_or v j 0 ≡ get_or (0 ∷ 0 ∷ 0 ∷ w) j 0) → FollowsIn v 0 n → FollowsUpTo w n
follows_in_same v w n within same h = (
  within,
  λ i l m. rw (
    same i (omega (arith, m)),
    same (suc i) (omega (arith, m)),
    same (suc (suc i)) (omega (arith, m)),
    same (suc (suc (suc i))) (omega (arith, m)),
  ) at (h i l m),
)

-- bytes of which each may follow are UTF-8 if no continuation byte is missing after them
text_before : (w : List ℕ) (n : ℕ) → FollowsUpTo w n → IsWholeAfter (get_or (0 ∷ 0 ∷ 0 ∷ w) n 0)
    (get_or (0 ∷ 0 ∷ 0 ∷ w) (suc n) 0) (get_or (0 ∷ 0 ∷ 0 ∷ w) (suc (suc n)) 0) → IsUtf8 (take n w)
text_before w n h whole =
    let long : length (take n w) ≡ n = omega (arith, length-take n w, h.0) in
    let same : (j : ℕ) → j < suc (suc (suc n)) → get_or (0 ∷ 0 ∷ 0 ∷ w) j 0 ≡ get_or (0 ∷ 0 ∷ 0 ∷ take n w) j 0
    = λ j l. sym (get_or-take (suc (suc (suc n))) (0 ∷ 0 ∷ 0 ∷ w) j 0 l) in
    let all = follows_in_same (0 ∷ 0 ∷ 0 ∷ w) (take n w) n (omega (arith, long)) same h.1 in
    let ended = rw (same n (omega arith), same (suc n) (omega arith), same (suc (suc n)) (omega arith)) at whole in
    text_from_follow n 0 0 0 (take n w) (omega (arith, long)) (omega arith)
    (follow_from_indexes 0 0 0 (take n w) (rw long all.1) (rw long ended))

-- the same by the last three of three bytes or more
pub text_before_end : (w : List ℕ) (n : ℕ) → 3 ≤ n → FollowsUpTo w n
    → IsWholeAfter (get_or w (n - 3) 0) (get_or w (n - 2) 0) (get_or w (n - 1) 0) → IsUtf8 (take n w)
text_before_end w zero some h whole = absurd (omega (arith, some))
text_before_end w (suc zero) some h whole = absurd (omega (arith, some))
text_before_end w (suc (suc zero)) some h whole = absurd (omega (arith, some))
text_before_end w (suc (suc (suc n))) some h whole =
    let third : suc (suc (suc n)) - 3 ≡ n = omega arith in
    let second : suc (suc (suc n)) - 2 ≡ suc n = omega arith in
    let first : suc (suc (suc n)) - 1 ≡ suc (suc n) = omega arith in
    text_before w (suc (suc (suc n))) h (rw (third, second, first) at whole)

whole_before_lead : (z y x b : ℕ) → MayFollow z y x b → 0xC0 ≤ b → IsWholeAfter z y x
whole_before_lead z y x b may lead = (
  elim (cases_lt z 0xF0) [ inl l ↦ l | inr l ↦ absurd (omega (arith, may.continues (inr (inr l)), lead)) ],
  elim (cases_lt y 0xE0) [ inl l ↦ l | inr l ↦ absurd (omega (arith, may.continues (inr (inl l)), lead)) ],
  elim (cases_lt x 0xC0) [ inl l ↦ l | inr l ↦ absurd (omega (arith, may.continues (inl l), lead)) ],
)

-- bytes before a lead byte that may follow them are UTF-8
pub text_before_lead : (w : List ℕ) (n k : ℕ) → FollowsUpTo w n → k < n → 0xC0 ≤ get_or w k 0 → IsUtf8 (take k w)
text_before_lead w n k h l lead =
    text_before w k (omega (arith, h.0, l), λ i from m. h.1 i from (omega (arith, l, m))) (whole_before_lead _ _ _ _ (h.1 k (omega arith) l) lead)

-- lanes of which each may follow are the bytes of a block that may follow
pub follows_in_chunks : (w : List ℕ) (at n : ℕ) → n ≤ 32 → ((k : ℕ) → k < n → MayFollow (get_or (chunk at 32 w) k 0)
    (get_or (chunk (at + 1) 32 w) k 0) (get_or (chunk (at + 2) 32 w) k 0) (get_or (chunk (at + 3) 32 w) k 0)) → FollowsIn w at (at + n)
follows_in_chunks w at n few h i l m =
    let lane : (from j : ℕ) → from + (i - at) ≡ j → get_or (chunk from 32 w) (i - at) 0 ≡ get_or w j 0
    = λ from j e. get_or-chunk from 32 w (i - at) 0 (omega (arith, few, l, m)) ∙ ap (λ n. get_or w n 0) e in
    rw (
      lane at i (omega (arith, l)),
      lane (at + 1) (suc i) (omega (arith, l)),
      lane (at + 2) (suc (suc i)) (omega (arith, l)),
      lane (at + 3) (suc (suc (suc i))) (omega (arith, l)),
    ) at (h (i - at) (omega (arith, l, m)))

moved : (v r : List ℕ) → r ≡ 0 ∷ take 31 v → (k : ℕ) → k < 32 → get_or r k 0 ≡ get_or (0 ∷ v) k 0
moved v r e zero l = ap (λ r. get_or r 0 0) e
moved v r e (suc k) l = ap (λ r. get_or r (suc k) 0) e ∙ get_or-take 31 v k 0 (omega (arith, l))

-- lanes that are moved on after a zero, once, twice and thrice, are the bytes before each lane
module _ (b first second third : List ℕ) (once : first ≡ 0 ∷ take 31 b) (twice : second ≡ 0 ∷ take 31 first) (thrice : third ≡ 0 ∷ take 31 second) where
  moved_twice : (k : ℕ) → k < 32 → get_or second k 0 ≡ get_or (0 ∷ 0 ∷ b) k 0
  moved_twice zero l = moved first second twice 0 l
  moved_twice (suc k) l = moved first second twice (suc k) l ∙ moved b first once k (omega (arith, l))

  moved_thrice : (k : ℕ) → k < 32 → get_or third k 0 ≡ get_or (0 ∷ 0 ∷ 0 ∷ b) k 0
  moved_thrice zero l = moved second third thrice 0 l
  moved_thrice (suc k) l = moved second third thrice (suc k) l ∙ moved_twice k (omega (arith, l))

  -- the first bytes of a list, of which each may follow the lanes before it
  pub follows_after_zeros : (w : List ℕ) (n m : ℕ) → n ≤ length w → n ≤ m → m ≤ 32
      → ((k : ℕ) → k < 32 → k < length w → get_or b k 0 ≡ get_or w k 0)
      → ((k : ℕ) → k < m → MayFollow (get_or third k 0) (get_or second k 0) (get_or first k 0) (get_or b k 0)) → FollowsUpTo w n
  follows_after_zeros w n m within le few same h = follows_in_same (0 ∷ 0 ∷ 0 ∷ b) w n within same_after
      (λ i from l. rw (
        moved_thrice i (omega (arith, l, le, few)),
        moved_twice i (omega (arith, l, le, few)),
        moved b first once i (omega (arith, l, le, few)),
      ) at (h i (omega (arith, l, le))))
    where
      same_after : (j : ℕ) → j < suc (suc (suc n)) → get_or (0 ∷ 0 ∷ 0 ∷ b) j 0 ≡ get_or (0 ∷ 0 ∷ 0 ∷ w) j 0
      same_after zero l = refl
      same_after (suc zero) l = refl
      same_after (suc (suc zero)) l = refl
      same_after (suc (suc (suc j))) l = same j (omega (arith, l, le, few)) (omega (arith, l, within))

-- bytes that may follow, and those from an earlier index on
pub follows_on : (w : List ℕ) (at from n : ℕ) → from ≤ at → from + 3 + n ≤ length w → FollowsUpTo w (at + 3) → FollowsIn w from (from + n)
    → FollowsUpTo w (from + 3 + n)
follows_on w at from n le within front h = (
  within,
  λ i l m. elim (cases_lt i (at + 3)) [
    | inl k ↦ front.1 i l k
    | inr k ↦ subst (FollowsAt (0 ∷ 0 ∷ 0 ∷ w)) (later i k) (h (i - 3) (omega (arith, k, le)) (omega (arith, k, m)))
  ],
)
  where
    later : (i : ℕ) → at + 3 ≤ i → suc (suc (suc (i - 3))) ≡ i
    later i k = omega arith

ascii_follows : (z y x b : ℕ) → z < 0x80 → y < 0x80 → x < 0x80 → b < 0x80 → MayFollow z y x b
ascii_follows z y x b l m n o = grind (arith)

-- in a block of ASCII each byte but the first three may follow
pub follows_in_ascii : (w : List ℕ) (at : ℕ) → at + 32 ≤ length w → AreAscii (chunk at 32 w) → FollowsIn w at (at + 29)
follows_in_ascii w at room all i k m =
    let ascii : (j : ℕ) → at ≤ j → j < at + 32 → get_or w j 0 < 0x80 = ascii_in_block 32 at w room all in
    ascii_follows _ _ _ _ (ascii i k (omega (arith, m))) (ascii (suc i) (omega (arith, k)) (omega (arith, m)))
    (ascii (suc (suc i)) (omega (arith, k)) (omega (arith, m))) (ascii (suc (suc (suc i))) (omega (arith, k)) (omega (arith, m)))

-- ASCII bytes are UTF-8
pub text_of_ascii : (w : List ℕ) → AreAscii w → IsUtf8 w
text_of_ascii w all =
    IsUtf8-from_ascii w (IsAscii-from_reads w (length w) (omega arith) (λ k l. Each1-get_or (λ n. n < 0x80) w k 0 l all))
