-- The units whose encodings end at the bytes of a block are the units of the code points that it holds whole.
use Rattle.wtf8.proofs.Common.{◌≡◌, ℕ, ◌+◌, ◌/◌, ◌%◌, ◌<◌, ◌≤◌, List, [], ◌∷◌, ◌++◌, Bool, true, false, length, take}
use Rattle.wtf8.proofs.Common.{drop, get_or, refl, sym, ap, ◌∙◌, subst, arith, cases_lt, lt-ltb, le-ltb, encoding, bytes, units, units_of}
use Rattle.wtf8.proofs.Common.{IsClean, IsWellFormed, BeginsWithUnits, Writes, length-append, nat_tests, drop_at, take-append-drop}
use Rattle.wtf8.proofs.Common.{AreAscii, append-nil, drop_all, length-replicate, length-take-le, replicate, suc, take_all, zero, ◌-◌}
use Rattle.std.proofs.lemmas.Simd.{Each1-replicate}
use Rattle.wtf8.proofs.lemmas.codec.Scalars.{bytes-ascii, clean-ascii, units-ascii}
use Rattle.wtf8.specs.private.UnitsOut.{IsBlock}
use Rattle.wtf8.proofs.lemmas.codec.Encoding.{encoding_cases, one, two, three, four, bytes-append, length-encoding_bounds, second_row, third_row, fourth_row}
use Rattle.wtf8.proofs.lemmas.codec.Readings.{units_one, units_two, units-append, clean-append, unpaired-before_no_trail, IsWellFormed-equal_bytes, clean-first, clean-rest, clean-back, lead_of, trail_of}
use Rattle.wtf8.proofs.lemmas.units.PackedWords.{whole_len, whole_len-bound}
use Rattle.wtf8.proofs.lemmas.units.UnitLanes.{length-set_lanes, unit_at_end}
use Rattle.wtf8.specs.private.UnitEnds.{by_position, ends_in_block, set_lanes, picked}
use Rattle.std.proofs.lemmas.List.{places, same_lists}
use Rattle.wtf8.proofs.lemmas.lanes.Entries.{get_of}

-- The unit at the last byte of each encoding.

-- what the three bytes before a code point satisfy: the encoding before it is whole
pub record AreBefore (z y x : ℕ) : Type 0 where
  pub first : z < 0xF0
  pub second : y < 0xE0
  pub third : x < 0xC0

unit_at_end-one : (z y x b : ℕ) → AreBefore z y x → b < 0x80 → unit_at_end z y x b ≡ b
unit_at_end-one z y x b k l = grind (arith, nat_tests, cases_lt, lt-ltb, le-ltb)

unit_at_end-two : (z y p : ℕ) → z < 0xF0 → y < 0xE0 → p < 0x800 → unit_at_end z y (0xC0 + p / 64) (0x80 + p % 64) ≡ p
unit_at_end-two z y p k l m = grind (arith, lt-ltb, le-ltb)

unit_at_end-three : (z p : ℕ) → z < 0xF0 → p < 0x10000 → unit_at_end z (0xE0 + p / 4096) (0x80 + p / 64 % 64) (0x80 + p % 64) ≡ p
unit_at_end-three z p k m = grind (arith, lt-ltb, le-ltb)

unit_at_end-lead : (z p : ℕ) → 0x10000 ≤ p → p ≤ 0x10FFFF
    → unit_at_end z (0xF0 + p / 262144) (0x80 + p / 4096 % 64) (0x80 + p / 64 % 64) ≡ lead_of p
unit_at_end-lead z p k m = grind (arith, lt-ltb, le-ltb)

unit_at_end-trail : (p : ℕ) → 0x10000 ≤ p → p ≤ 0x10FFFF
    → unit_at_end (0xF0 + p / 262144) (0x80 + p / 4096 % 64) (0x80 + p / 64 % 64) (0x80 + p % 64) ≡ trail_of p
unit_at_end-trail p k m = grind (arith, lt-ltb, le-ltb)

-- The lanes that are set, the numbers that they pick, and the bytes up to the last.

ends_in_block-end : (y x b : ℕ) (w : List ℕ) → y < 0xF0 → x < 0xE0 → b < 0xC0 → ends_in_block y x b w ≡ true
ends_in_block-end y x b [] l m k = rw (lt-ltb y 0xF0 l, lt-ltb b 0xC0 k) (lt-ltb x 0xE0 m)
ends_in_block-end y x b (c ∷ w) l m k = rw (lt-ltb b 0xC0 k) (lt-ltb x 0xE0 m)

ends_in_block-third : (y x b c : ℕ) (w : List ℕ) → x < 0xE0 → b < 0xC0 → ends_in_block y x b (c ∷ w) ≡ true
ends_in_block-third y x b c w l m = rw (lt-ltb b 0xC0 m) (lt-ltb x 0xE0 l)

ends_in_block-lead_byte : (y x b : ℕ) (w : List ℕ) → 0xC0 ≤ b → ends_in_block y x b w ≡ false
ends_in_block-lead_byte y x b [] l = grind (arith, cases_lt, lt-ltb, le-ltb)
ends_in_block-lead_byte y x b (c ∷ w) l = rw (le-ltb b 0xC0 l) refl

ends_in_block-second : (y x b : ℕ) (w : List ℕ) → 0xE0 ≤ x → ends_in_block y x b w ≡ false
ends_in_block-second y x b [] l = grind (arith, cases_lt, lt-ltb, le-ltb)
ends_in_block-second y x b (c ∷ w) l = grind (arith, cases_lt, lt-ltb, le-ltb)

ends_in_block-last_lead : (y x b : ℕ) → 0xF0 ≤ y → ends_in_block y x b [] ≡ false
ends_in_block-last_lead y x b l = rw (le-ltb y 0xF0 l) refl

picked-set : (n : ℕ) (u : List ℕ) (b : Bool) (s : List Bool) → b ≡ true → picked (n ∷ u) (b ∷ s) ≡ n ∷ picked u s
picked-set n u b s e = rw e refl

picked-unset : (n : ℕ) (u : List ℕ) (b : Bool) (s : List Bool) → b ≡ false → picked (n ∷ u) (b ∷ s) ≡ picked u s
picked-unset n u b s e = rw e refl

whole_len-set : (b : Bool) (s : List Bool) → b ≡ true → whole_len (b ∷ s) ≡ 1 + whole_len s
whole_len-set b s e = grind (arith, cases_lt, lt-ltb, le-ltb)

whole_len-before : (b : Bool) (s : List Bool) → 0 < whole_len s → whole_len (b ∷ s) ≡ 1 + whole_len s
whole_len-before b s l = rw (lt-ltb 0 (whole_len s) l) refl

-- no lane is set
record NoneSet (u : List ℕ) (s : List Bool) : Type 0 where
  pub picks : picked u s ≡ []
  pub len : whole_len s ≡ 0

NoneSet-unset : (n : ℕ) (b : Bool) {u : List ℕ} {s : List Bool} → b ≡ false → NoneSet u s → NoneSet (n ∷ u) (b ∷ s)
NoneSet-unset n b {u} {s} e k = grind (arith, picked-unset, le-ltb)

NoneSet-nil : NoneSet [] []
NoneSet-nil = record { picks = refl; len = refl }

-- the numbers `u` and lanes `s` begin with `n` lanes that pick `taken`, the last of them set; `v` and `t` are the rest
record Takes (n : ℕ) (taken u : List ℕ) (s : List Bool) (v : List ℕ) (t : List Bool) : Type 0 where
  pub picks : picked u s ≡ taken ++ picked v t
  pub len : whole_len s ≡ n + whole_len t

Takes-set : (n : ℕ) (u : List ℕ) (b : Bool) (s : List Bool) → b ≡ true → Takes 1 (n ∷ []) (n ∷ u) (b ∷ s) u s
Takes-set n u b s e = record { picks = picked-set n u b s e; len = whole_len-set b s e }

Takes-unset : (n m : ℕ) (b : Bool) {taken u v : List ℕ} {s t : List Bool} → 0 < m → b ≡ false → Takes m taken u s v t
    → Takes (1 + m) taken (n ∷ u) (b ∷ s) v t
Takes-unset n m b {taken} {u} {v} {s} {t} l e k = grind (arith, picked-unset, whole_len-before)

Takes-two : {n m l t : ℕ} {u : List ℕ} (b d : Bool) {s : List Bool} → n ≡ l → m ≡ t → b ≡ true → d ≡ true
    → Takes 2 (l ∷ t ∷ []) (n ∷ m ∷ u) (b ∷ d ∷ s) u s
Takes-two {n} {m} {l} {t} {u} b d {s} e g f h = grind (arith, picked-set, whole_len-set)

-- The code points that a block holds whole.

-- the block `v` after `z`, `y` and `x` holds the code points `front` of `c` whole: their units are picked
record HoldsPoints (z y x : ℕ) (v c : List ℕ) : Type 0 where
  pub front : List ℕ
  pub back : List ℕ
  pub joined : c ≡ front ++ back
  pub picks : picked (by_position unit_at_end z y x v) (set_lanes y x v) ≡ units front
  pub len : whole_len (set_lanes y x v) ≡ length (bytes front)
  pub some : 4 ≤ length v → 0 < whole_len (set_lanes y x v)
  pub all : length v ≡ length (bytes c) → back ≡ []

-- no code point is whole if no lane is set
HoldsPoints-none : {z y x : ℕ} (v : List ℕ) (p : ℕ) (c : List ℕ) → NoneSet (by_position unit_at_end z y x v) (set_lanes y x v)
    → length v < length (encoding p) → HoldsPoints z y x v (p ∷ c)
HoldsPoints-none v p c k l = grind (arith, length-encoding_bounds, length-append)

HoldsPoints-first : {z y x d e f : ℕ} (p n : ℕ) (c v w taken : List ℕ) → length (encoding p) ≡ n → 0 < n → length v ≡ n + length w
    → units_of p ≡ taken
    → Takes n taken (by_position unit_at_end z y x v) (set_lanes y x v) (by_position unit_at_end d e f w) (set_lanes e f w)
    → HoldsPoints d e f w c → HoldsPoints z y x v (p ∷ c)
HoldsPoints-first p n c v w taken long l count own t k = record {
  front = p ∷ k.front;
  back = k.back;
  joined = ap (λ c. p ∷ c) k.joined;
  picks = t.picks ∙ (ap (λ u. taken ++ u) k.picks ∙ ap (λ u. u ++ units k.front) (sym own));
  len = omega (arith, t.len, k.len, long, length-append (encoding p) (bytes k.front));
  some = λ _. omega (arith, t.len, l);
  all = λ e. k.all (omega (arith, e, count, long, length-append (encoding p) (bytes c)));
}

-- what the blocks that begin after the first code point hold
abbrev HoldsMore : List ℕ → List ℕ → Type 0
HoldsMore c r = (z y x : ℕ) (v : List ℕ) → AreBefore z y x → bytes c ≡ v ++ r → HoldsPoints z y x v c

abbrev Begins : List ℕ → List ℕ → List ℕ → List ℕ → Type 0
Begins e c v r = e ++ bytes c ≡ v ++ r

holds_one : (z y x p : ℕ) (c v r : List ℕ) → AreBefore z y x → p < 0x80 → encoding p ≡ p ∷ [] → Begins (p ∷ []) c v r → HoldsMore c r
    → HoldsPoints z y x v (p ∷ c)
holds_one z y x p c [] r k l e g more = HoldsPoints-none [] p c NoneSet-nil (omega (arith, ap length e))
holds_one z y x p c (b ∷ v) r k l e g more =
    let first : p ≡ b = ap (λ w. get_or w 0 0) g in
    subst (λ b. HoldsPoints z y x (b ∷ v) (p ∷ c)) first
    (HoldsPoints-first p 1 c (p ∷ v) v (p ∷ []) (ap length e) (omega arith) (omega arith) (units_one p (omega (arith, l)))
    (subst (λ n. Takes 1 (n ∷ []) (by_position unit_at_end z y x (p ∷ v)) (set_lanes y x (p ∷ v)) (by_position unit_at_end y x p v)
    (set_lanes x p v)) (unit_at_end-one z y x p k l)
    (Takes-set (unit_at_end z y x p) _ _ _ (ends_in_block-end y x p v (omega (arith, k.second)) (omega (arith, k.third)) (omega (arith, l)))))
    (more y x p v (record { first = omega (arith, k.second); second = omega (arith, k.third); third = omega (arith, l) }) (ap (drop 1) g)))

-- a lead byte at the end of a block, and after one of three or four bytes the next byte, end no unit
holds_none_of_one : (z y x b p : ℕ) (c : List ℕ) → 0xC0 ≤ b → 1 < length (encoding p) → HoldsPoints z y x (b ∷ []) (p ∷ c)
holds_none_of_one z y x b p c l m =
    HoldsPoints-none (b ∷ []) p c (NoneSet-unset _ _ (ends_in_block-lead_byte y x b [] l) NoneSet-nil) (omega (arith, m))

holds_none_of_two : (z y x b d p : ℕ) (c : List ℕ) → 0xE0 ≤ b → 2 < length (encoding p) → HoldsPoints z y x (b ∷ d ∷ []) (p ∷ c)
holds_none_of_two z y x b d p c l m =
    let first = ends_in_block-lead_byte y x b (d ∷ []) (omega (arith, l)) in
    let second = ends_in_block-second x b d [] l in
    HoldsPoints-none (b ∷ d ∷ []) p c (NoneSet-unset _ _ first (NoneSet-unset _ _ second NoneSet-nil)) (omega (arith, m))

holds_two : (z y x p : ℕ) (c v r : List ℕ) → AreBefore z y x → 0x80 ≤ p → p < 0x800 → encoding p ≡ second_row p
    → Begins (second_row p) c v r → HoldsMore c r → HoldsPoints z y x v (p ∷ c)
holds_two z y x p c [] r k m l e g more = HoldsPoints-none [] p c NoneSet-nil (omega (arith, ap length e))
holds_two z y x p c (b ∷ []) r k m l e g more = holds_none_of_one z y x b p c (omega (arith, ap (λ w. get_or w 0 0) g)) (omega (arith, ap length e))
holds_two z y x p c (b ∷ d ∷ v) r k m l e g more =
    let first : 0xC0 + p / 64 ≡ b = ap (λ w. get_or w 0 0) g in
    let second : 0x80 + p % 64 ≡ d = ap (λ w. get_or w 1 0) g in
    rw (← first, ← second) (
    let lead = 0xC0 + p / 64 in
    let last = 0x80 + p % 64 in
    HoldsPoints-first p 2 c (lead ∷ last ∷ v) v (p ∷ []) (ap length e) (omega arith) (omega arith) (units_one p (omega (arith, l)))
    (Takes-unset _ 1 _ (omega arith) (ends_in_block-lead_byte y x lead (last ∷ v) (omega arith))
    (subst (λ n. Takes 1 (n ∷ []) (by_position unit_at_end y x lead (last ∷ v)) (set_lanes x lead (last ∷ v))
    (by_position unit_at_end x lead last v) (set_lanes lead last v)) (unit_at_end-two y x p (omega (arith, k.second)) (omega (arith, k.third)) l)
    (Takes-set (unit_at_end y x lead last) _ _ _ (ends_in_block-end x lead last v (omega (arith, k.third)) (omega (arith, l)) (omega arith)))))
    (more x lead last v (record { first = omega (arith, k.third); second = omega (arith, l); third = omega arith }) (ap (drop 2) g))
    )

holds_three : (z y x p : ℕ) (c v r : List ℕ) → AreBefore z y x → 0x800 ≤ p → p < 0x10000 → encoding p ≡ third_row p
    → Begins (third_row p) c v r → HoldsMore c r → HoldsPoints z y x v (p ∷ c)
holds_three z y x p c [] r k m l e g more = HoldsPoints-none [] p c NoneSet-nil (omega (arith, ap length e))
holds_three z y x p c (b ∷ []) r k m l e g more = holds_none_of_one z y x b p c (omega (arith, ap (λ w. get_or w 0 0) g)) (omega (arith, ap length e))
holds_three z y x p c (b ∷ d ∷ []) r k m l e g more = holds_none_of_two z y x b d p c (omega (arith, ap (λ w. get_or w 0 0) g)) (omega (arith, ap length e))
holds_three z y x p c (b ∷ d ∷ f ∷ v) r k m l e g more =
    let first : 0xE0 + p / 4096 ≡ b = ap (λ w. get_or w 0 0) g in
    let second : 0x80 + p / 64 % 64 ≡ d = ap (λ w. get_or w 1 0) g in
    let third : 0x80 + p % 64 ≡ f = ap (λ w. get_or w 2 0) g in
    rw (← first, ← second, ← third) (
    let lead = 0xE0 + p / 4096 in
    let next = 0x80 + p / 64 % 64 in
    let last = 0x80 + p % 64 in
    HoldsPoints-first p 3 c (lead ∷ next ∷ last ∷ v) v (p ∷ []) (ap length e) (omega arith) (omega arith) (units_one p l)
    (Takes-unset _ 2 _ (omega arith) (ends_in_block-lead_byte y x lead (next ∷ last ∷ v) (omega arith))
    (Takes-unset _ 1 _ (omega arith) (ends_in_block-second x lead next (last ∷ v) (omega arith))
    (subst (λ n. Takes 1 (n ∷ []) (by_position unit_at_end x lead next (last ∷ v)) (set_lanes lead next (last ∷ v))
    (by_position unit_at_end lead next last v) (set_lanes next last v)) (unit_at_end-three x p (omega (arith, k.third)) l)
    (Takes-set (unit_at_end x lead next last) _ _ _ (ends_in_block-end lead next last v (omega (arith, l)) (omega arith) (omega arith))))))
    (more lead next last v (record { first = omega (arith, l); second = omega arith; third = omega arith }) (ap (drop 3) g))
    )

holds_four : (z y x p : ℕ) (c v r : List ℕ) → AreBefore z y x → 0x10000 ≤ p → p ≤ 0x10FFFF → encoding p ≡ fourth_row p
    → Begins (fourth_row p) c v r → HoldsMore c r → HoldsPoints z y x v (p ∷ c)
holds_four z y x p c [] r k m l e g more = HoldsPoints-none [] p c NoneSet-nil (omega (arith, ap length e))
holds_four z y x p c (b ∷ []) r k m l e g more = holds_none_of_one z y x b p c (omega (arith, ap (λ w. get_or w 0 0) g)) (omega (arith, ap length e))
holds_four z y x p c (b ∷ d ∷ []) r k m l e g more = holds_none_of_two z y x b d p c (omega (arith, ap (λ w. get_or w 0 0) g)) (omega (arith, ap length e))
holds_four z y x p c (b ∷ d ∷ f ∷ []) r k m l e g more =
    let lead : 0xF0 ≤ b = omega (arith, ap (λ w. get_or w 0 0) g) in
    let first = ends_in_block-lead_byte y x b (d ∷ f ∷ []) (omega (arith, lead)) in
    let second = ends_in_block-second x b d (f ∷ []) (omega (arith, lead)) in
    let third = ends_in_block-last_lead b d f lead in
    HoldsPoints-none (b ∷ d ∷ f ∷ []) p c
    (NoneSet-unset _ _ first (NoneSet-unset _ _ second (NoneSet-unset _ _ third NoneSet-nil))) (omega (arith, ap length e))
holds_four z y x p c (b ∷ d ∷ f ∷ h ∷ v) r k m l e g more =
    let first : 0xF0 + p / 262144 ≡ b = ap (λ w. get_or w 0 0) g in
    let second : 0x80 + p / 4096 % 64 ≡ d = ap (λ w. get_or w 1 0) g in
    let third : 0x80 + p / 64 % 64 ≡ f = ap (λ w. get_or w 2 0) g in
    let fourth : 0x80 + p % 64 ≡ h = ap (λ w. get_or w 3 0) g in
    rw (← first, ← second, ← third, ← fourth) (
    let lead = 0xF0 + p / 262144 in
    let next = 0x80 + p / 4096 % 64 in
    let low = 0x80 + p / 64 % 64 in
    let last = 0x80 + p % 64 in
    HoldsPoints-first p 4 c (lead ∷ next ∷ low ∷ last ∷ v) v (lead_of p ∷ trail_of p ∷ []) (ap length e) (omega arith) (omega arith) (units_two p m)
    (Takes-unset _ 3 _ (omega arith) (ends_in_block-lead_byte y x lead (next ∷ low ∷ last ∷ v) (omega arith))
    (Takes-unset _ 2 _ (omega arith) (ends_in_block-second x lead next (low ∷ last ∷ v) (omega arith))
    (Takes-two _ _ (unit_at_end-lead x p m l) (unit_at_end-trail p m l)
    (ends_in_block-third lead next low last v (omega arith) (omega arith))
    (ends_in_block-end next low last v (omega arith) (omega arith) (omega arith)))))
    (more next low last v (record { first = omega arith; second = omega arith; third = omega arith }) (ap (drop 4) g))
    )

-- the front of the bytes of code points, from the start of one on, holds code points whole
holds_points : (z y x : ℕ) (c v r : List ℕ) → AreBefore z y x → IsClean c → bytes c ≡ v ++ r → HoldsPoints z y x v c
holds_points z y x [] [] r k clean g =
    record { front = []; back = []; joined = refl; picks = refl; len = refl; some = λ h. absurd (omega (arith, h)); all = λ _. refl }
holds_points z y x [] (b ∷ v) r k clean g = absurd (omega (arith, ap length g))
holds_points z y x (p ∷ c) v r k clean g =
    let more : HoldsMore c r = λ z y x v k g. holds_points z y x c v r k (clean-rest p c clean) g in
    elim (encoding_cases p) [
      | one l e ↦ holds_one z y x p c v r k l e (subst (λ w. Begins w c v r) e g) more
      | two m l e ↦ holds_two z y x p c v r k m l e (subst (λ w. Begins w c v r) e g) more
      | three m l e ↦ holds_three z y x p c v r k m l e (subst (λ w. Begins w c v r) e g) more
      | four m e ↦ holds_four z y x p c v r k m (clean-first p c clean) e (subst (λ w. Begins w c v r) e g) more
    ]

-- the units that end in the front of well-formed bytes are the next units
begins_with_block : (w block : List ℕ) → block ≡ take 32 w
    → BeginsWithUnits w (picked (by_position unit_at_end 0 0 0 block) (set_lanes 0 0 block)) (whole_len (set_lanes 0 0 block))
begins_with_block w block same h =
    let whole : bytes h.points ≡ block ++ drop 32 w = h.encoded ∙ (sym (take-append-drop 32 w) ∙ ap (λ b. b ++ drop 32 w) (sym same)) in
    let own = holds_points 0 0 0 h.points block (drop 32 w) (record { first = omega arith; second = omega arith; third = omega arith }) h.clean whole in
    let front = bytes own.front in
    let divided : w ≡ front ++ bytes own.back = sym h.encoded ∙ (ap bytes own.joined ∙ bytes-append own.front own.back) in
    let rest : bytes own.back ≡ drop (whole_len (set_lanes 0 0 block)) w =
    sym (ap (λ n. drop n w) own.len ∙ (ap (drop (length front)) divided ∙ drop_at front (bytes own.back) (length front) refl)) in (
      record { points = own.back; clean = clean-back own.front own.back (subst IsClean own.joined h.clean); encoded = rest },
      ap units own.joined ∙ (units-append own.front own.back ∙ ap (λ u. u ++ units own.back) (sym own.picks)),
    )

-- a block of four bytes and more has a first code point whole
some_held : (w block : List ℕ) → IsWellFormed w → block ≡ take 32 w → 4 ≤ length block → 0 < whole_len (set_lanes 0 0 block)
some_held w block h same long =
    let whole : bytes h.points ≡ block ++ drop 32 w = h.encoded ∙ (sym (take-append-drop 32 w) ∙ ap (λ b. b ++ drop 32 w) (sym same)) in
    (holds_points 0 0 0 h.points block (drop 32 w) (record { first = omega arith; second = omega arith; third = omega arith }) h.clean whole).some long

-- what a block tells of the bytes that it begins with, or of all of them, if zeros follow these in it
pub record HoldsUnits (w block : List ℕ) (padding : ℕ) (h : IsWellFormed w) : Type 0 where
  pub taken : List ℕ
  pub picks : picked (by_position unit_at_end 0 0 0 block) (set_lanes 0 0 block) ≡ taken ++ replicate padding 0
  pub width : padding ≤ whole_len (set_lanes 0 0 block)
  pub rest : IsWellFormed (drop (whole_len (set_lanes 0 0 block) - padding) w)
  pub whole : units h.points ≡ taken ++ units rest.points
  pub some : 0 < length w → padding < whole_len (set_lanes 0 0 block)
  pub all : 0 < padding → units rest.points ≡ []
  pub within : whole_len (set_lanes 0 0 block) - padding ≤ length w

-- fewer than 32 bytes, then zeros
pub IsBlock-padded : (w block : List ℕ) (n : ℕ) → n ≡ length w → length w < 32 → block ≡ w ++ replicate (32 - length w) 0 → IsBlock w block (32 - n)
IsBlock-padded w block n count few same =
    let zeros = replicate (32 - length w) 0 in
    let long : length (w ++ zeros) ≡ 32 = omega (arith, few, length-append w zeros, length-replicate {A = ℕ} (32 - length w) 0) in
    let all : block ≡ take 32 (w ++ zeros) = same ∙ sym (take_all 32 (w ++ zeros) (omega (arith, long))) in
    record {
      front = subst (λ m. block ≡ take 32 (w ++ replicate (32 - m) 0)) (sym count) all;
      fills = omega (arith, count);
      all = λ _. omega (arith, count, few);
    }

pub holds_units : (w block : List ℕ) (padding : ℕ) → IsBlock w block padding → (h : IsWellFormed w) → HoldsUnits w block padding h
holds_units w block zero b h =
    let s = set_lanes 0 0 block in
    let same : block ≡ take 32 w = b.front ∙ ap (take 32) (append-nil w) in
    let begins = begins_with_block w block same h in
    let long : length block ≡ 32 = ap length same ∙ length-take-le 32 w (omega (arith, b.fills)) in
    let width : whole_len s ≡ whole_len s - zero = omega arith in
    let rest = IsWellFormed-equal_bytes begins.0 (sym (ap (λ n. drop n w) width)) in
    record {
      taken = picked (by_position unit_at_end 0 0 0 block) s;
      picks = sym (append-nil (picked (by_position unit_at_end 0 0 0 block) s));
      width = omega arith;
      rest = rest;
      whole = begins.1;
      some = λ _. some_held w block h same (omega (arith, long));
      all = λ l. absurd (omega (arith, l));
      within = omega (arith, whole_len-bound s, length-set_lanes 0 0 block, long, b.fills);
    }
holds_units w block (suc k) b h =
    let s = set_lanes 0 0 block in
    let zeros = replicate (suc k) 0 in
    let ascii : AreAscii zeros = Each1-replicate (λ n. n < 0x80) (suc k) 0 (omega arith) in
    let count : length w + suc k ≡ 32 = b.all (omega arith) in
    let long : length (w ++ zeros) ≡ 32 = omega (arith, count, length-append w zeros, length-replicate {A = ℕ} (suc k) 0) in
    let same : block ≡ w ++ zeros = b.front ∙ take_all 32 (w ++ zeros) (omega (arith, long)) in
    let encoded : bytes (h.points ++ zeros) ≡ block =
    bytes-append h.points zeros ∙ ((λ i. h.encoded i ++ bytes-ascii zeros ascii i) ∙ sym same) in
    let clean = clean-append h.points zeros h.clean (clean-ascii zeros ascii)
    (unpaired-before_no_trail 0 (replicate k 0) (λ t. absurd (omega (arith, t.0)))) in
    let own = holds_points 0 0 0 (h.points ++ zeros) block [] (record { first = omega arith; second = omega arith; third = omega arith }) clean
    (encoded ∙ sym (append-nil block)) in
    let front : own.front ≡ h.points ++ zeros =
    sym (own.joined ∙ (ap (λ d. own.front ++ d) (own.all (ap length (sym encoded))) ∙ append-nil own.front)) in
    let width : whole_len s ≡ 32 = own.len ∙ (ap (λ c. length (bytes c)) front ∙ (ap length encoded ∙ (ap length same ∙ long))) in
    let none : drop (whole_len s - suc k) w ≡ [] = drop_all (whole_len s - suc k) w (omega (arith, width, count)) in
    record {
      taken = units h.points;
      picks = own.picks ∙ (ap units front ∙ (units-append h.points zeros ∙ ap (λ u. units h.points ++ u) (units-ascii zeros ascii)));
      width = omega (arith, width, count);
      rest = record { points = []; clean = tt; encoded = sym none };
      whole = sym (append-nil (units h.points));
      some = λ l. omega (arith, width, count, l);
      all = λ _. refl;
      within = omega (arith, width, count);
    }

pub Writes-trans : {a b d l m r : List ℕ} {i j k : ℕ} → Writes a i l b j m → Writes b j m d k r → Writes a i l d k r
Writes-trans v w = grind arith

pub Writes-equal_left : {a b l m r : List ℕ} {i j : ℕ} → l ≡ m → Writes a i l b j r → Writes a i m b j r
Writes-equal_left {a} {b} {r = r} {i} {j} e w = subst (λ l. Writes a i l b j r) e w

-- the last units that were written, then left out
pub Writes-front : {a b : List ℕ} (i j n : ℕ) (v z r : List ℕ) → length z ≡ n → i ≤ length a → Writes a i (v ++ z) b j []
    → ((m : ℕ) → i + 32 ≤ m → drop m b ≡ drop m a) → Writes a i (v ++ r) b (j - n) r
Writes-front {a} {b} i j n v z r count within w later =
    let parts : length (v ++ z) ≡ length v + n = omega (arith, length-append {A = ℕ}) in
    record {
      units = same_lists _ _ (grind (arith, places, ap length w.units, w.same_total, parts))
          (λ k d l. grind (arith, places, get_of w.units k d, w.same_total, parts));
      same_total = omega (arith, w.same_total, length-append {A = ℕ});
      order = omega (arith, w.same_total, parts);
      len = w.len;
      later = λ m after. later m (omega (arith, w.same_total, parts));
    }
