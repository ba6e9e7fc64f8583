-- Blocks of code points of one encoded length, decoded to units.
use Rattle.wtf8.proofs.Common.{◌≡◌, ℕ, zero, suc, ◌<◌, ◌≤◌, List, [], ◌∷◌, ◌++◌, length, take, drop, get_or, refl, sym, ap, ◌∙◌, arith, IsWellFormed, units}
use Rattle.wtf8.proofs.Common.{encoding, length-append, units_of, ◌+◌, ◌*◌, subst, Each1, drop-drop, length-drop, length-take, take-append-add, take-append-drop}
use Rattle.wtf8.proofs.Common.{append_assoc, get_or_append_left, drop-append-le, BeginsWithUnits, unit_of_two, unit_of_three, ◌-◌, ◌/◌, ◌%◌, AreAscii}
use Rattle.wtf8.proofs.Common.{length-take-le, FirstPointIs}
use Rattle.wtf8.proofs.lemmas.codec.Encoding.{encoding_cases}
use native.Mathlib.Nat.{mul-suc}
use Rattle.std.proofs.Math.Nat.{div-add-mod}
use Rattle.wtf8.specs.private.EncodedBytes.{BeginsWithPoints, map_run, lead_of_four, trail_of_four, pairs_of_fours}
use Rattle.wtf8.proofs.lemmas.codec.Readings.{first_of, IsWellFormed-equal_bytes, same_points, units_one, units_two}
use Rattle.std.proofs.lemmas.List.{places, same_lists}
use Rattle.wtf8.proofs.lemmas.lanes.Entries.{get_of}

-- the string after its first `at` bytes, whose units are `v`
pub record UnitsThenRest (w v : List ℕ) (at : ℕ) (h : IsWellFormed w) : Type 0 where
  pub rest : IsWellFormed (drop at w)
  pub whole : units h.points ≡ v ++ units rest.points

-- `f` decodes each code point whose lead byte satisfies `P`, which has `n` bytes and needs no others, to `c` units; `run`
-- decodes several
pub record DecodesRun (n c : ℕ) (P : ℕ → Type 0) (f : List ℕ → List ℕ) (run : ℕ → List ℕ → List ℕ) : Type 0 where
  pub positive : 0 < n
  pub width : (p : ℕ) (r : List ℕ) → P (get_or (encoding p ++ r) 0 0) → length (encoding p) ≡ n
  pub part : (p : ℕ) (r : List ℕ) → P (get_or (encoding p ++ r) 0 0) → f (encoding p ++ r) ≡ units_of p
  pub count : (b : List ℕ) → length (f b) ≡ c
  pub local : (b r : List ℕ) → n ≤ length b → f (b ++ r) ≡ f b
  pub none : (w : List ℕ) → run 0 w ≡ []
  pub more : (k : ℕ) (w : List ℕ) → run (suc k) w ≡ f w ++ run k (drop n w)

abbrev pub lead_byte : List ℕ → ℕ
lead_byte w = get_or w 0 0

pub DecodesRun-two_bytes : DecodesRun 2 1 (λ b. b / 32 ≡ 6) (λ w. unit_of_two w ∷ []) (map_run 2 unit_of_two)
DecodesRun-two_bytes = grind (arith, get_or_append_left, encoding_cases, units_one)

pub DecodesRun-three_bytes : DecodesRun 3 1 (λ b. b / 16 ≡ 14) (λ w. unit_of_three w ∷ []) (map_run 3 unit_of_three)
DecodesRun-three_bytes = grind (arith, get_or_append_left, encoding_cases, units_one)

pub DecodesRun-four_bytes : DecodesRun 4 2 (λ b. b / 8 ≡ 30) (λ w. lead_of_four w ∷ trail_of_four w ∷ []) pairs_of_fours
DecodesRun-four_bytes = grind (arith, get_or_append_left, encoding_cases, units_two)

-- the units of `k` code points, if the lead bytes of all satisfy `P`
units_then_rest : {P : ℕ → Type 0} {c : ℕ} (n : ℕ) (f : List ℕ → List ℕ) (run : ℕ → List ℕ → List ℕ) → DecodesRun n c P f run → (k : ℕ) (w b r : List ℕ)
    (h : IsWellFormed w) → w ≡ b ++ r → n * k ≤ length b → Each1 P (map_run n lead_byte k b) → UnitsThenRest w (run k b) (n * k) h
units_then_rest n f run rows zero w b r h e long each =
    let none : n * 0 ≡ 0 = omega arith in
    record { rest = IsWellFormed-equal_bytes h (ap (λ k. drop k w) none); whole = ap (λ u. u ++ units h.points) (sym (rows.none b)) }
units_then_rest {P} n f run rows (suc k) w b r h e long each =
    let wide : n * suc k ≡ n + n * k = omega (arith, mul-suc n k) in
    let fits : n ≤ length b = omega (arith, long, wide) in
    let first = first_of h (omega (arith, ap length e, length-append b r, rows.positive, fits)) in
    let p = first.0.point in
    let begins = ap lead_byte (sym e ∙ first.0.encoded) in
    let leads = subst P (sym (get_or_append_left b r 0 0 (omega (arith, rows.positive, fits))) ∙ begins) each.0 in
    let own : units_of p ≡ f b =
    sym (rows.part p first.0.rest leads) ∙ (ap f (sym first.0.encoded ∙ e) ∙ rows.local b r fits) in
    let after = units_then_rest n f run rows k (drop n w) (drop n b) r
    (IsWellFormed-equal_bytes first.1.rest (ap (λ m. drop m w) (sym (rows.width p first.0.rest leads)))) (ap (drop n) e ∙ drop-append-le n b r fits)
    (omega (arith, long, wide, length-drop n b)) each.1 in
    let later = units after.rest.points in
    record {
      rest = IsWellFormed-equal_bytes after.rest (ap (λ m. drop m w) wide ∙ sym (drop-drop (n * k) n w));
      whole = ap units first.1.joined ∙ ((λ i. own i ++ after.whole i)
          ∙ (sym (append_assoc (f b) (run k (drop n b)) later) ∙ ap (λ u. u ++ later) (sym (rows.more k b))));
    }

leads_front : (P : ℕ → Type 0) (n j k : ℕ) (b : List ℕ) → j ≤ k → Each1 P (map_run n lead_byte k b) → Each1 P (map_run n lead_byte j b)
leads_front P n zero k b few each = tt
leads_front P n (suc j) zero b few each = absurd (omega arith)
leads_front P n (suc j) (suc k) b few each = (each.0, leads_front P n j k (drop n b) (omega arith) each.1)

run_front : {P : ℕ → Type 0} {n : ℕ} (c : ℕ) (f : List ℕ → List ℕ) (run : ℕ → List ℕ → List ℕ) → DecodesRun n c P f run → (j k : ℕ) (b : List ℕ)
    → j ≤ k → take (c * j) (run k b) ≡ run j b
run_front c f run rows zero k b few = let none : c * 0 ≡ 0 = omega arith in ap (λ m. take m (run k b)) none ∙ sym (rows.none b)
run_front c f run rows (suc j) zero b few = absurd (omega arith)
run_front {n = n} c f run rows (suc j) (suc k) b few =
    let count : c * suc j ≡ length (f b) + c * j = omega (arith, mul-suc c j, rows.count b) in
    ap (take (c * suc j)) (rows.more k b) ∙ (ap (λ m. take m (f b ++ run k (drop n b))) count ∙ (take-append-add (f b) (run k (drop n b)) (c * j)
    ∙ (ap (λ u. f b ++ u) (run_front c f run rows j k (drop n b) (omega arith)) ∙ sym (rows.more j b))))

-- if the lead bytes of a block's code points satisfy `P`, the string begins with its units, and its first code points have its first units
pub begins_with_points : {P : ℕ → Type 0} (n c k : ℕ) (f : List ℕ → List ℕ) (run : ℕ → List ℕ → List ℕ) → DecodesRun n c P f run
    → (w firsts block : List ℕ) {m : ℕ} → length block ≡ m → ((j : ℕ) → n * j ≤ n * k → (j ≤ k) × (c * j ≤ length block)) → n * k ≤ length w
    → firsts ≡ map_run n lead_byte k (take (n * k) w) → block ≡ run k (take (n * k) w) → Each1 P firsts
    → (length block ≡ m) × BeginsWithUnits w block (n * k) × BeginsWithPoints w block (n * k) n c
begins_with_points {P} n c k f run rows w firsts block count few long e g each =
    let front = take (n * k) w in
    let points : BeginsWithPoints w block (n * k) n c = λ j within. (
      length-take-le (c * j) block (few j within).1,
      λ h.
          let own : run j front ≡ take (c * j) block = sym (ap (take (c * j)) g ∙ run_front c f run rows j k front (few j within).0) in
          let after = units_then_rest n f run rows j w front (drop (n * k) w) h (sym (take-append-drop (n * k) w))
          (omega (arith, long, within, length-take (n * k) w)) (leads_front P n j k front (few j within).0 (subst (Each1 P) e each)) in
          (after.rest, after.whole ∙ ap (λ b. b ++ units after.rest.points) own),
    ) in
    let all : take (c * k) block ≡ block = ap (take (c * k)) g ∙ (run_front c f run rows k k front (omega arith) ∙ sym g) in
    (count, subst (λ u. BeginsWithUnits w u (n * k)) all (points k (omega arith)).1, points)

-- the string after the first `d` bytes of a block, which are whole code points, has the units after the block's first ones
pub after_points : (w v b : List ℕ) (most n c d : ℕ) → BeginsWithPoints w v most n c → d ≤ most → d % n ≡ 0 → b ≡ drop d w
    → (h : IsWellFormed w) (rest : IsWellFormed b)
    → (length (take (c * (d / n)) v) ≡ c * (d / n)) × (units h.points ≡ take (c * (d / n)) v ++ units rest.points)
after_points w v b most n c d begins within whole same h rest =
    let bytes : n * (d / n) ≡ d = omega (arith, div-add-mod d n, whole) in
    let own = begins (d / n) (omega (arith, bytes, within)) in
    let first = own.1 h in
    (own.0, first.1 ∙ ap (λ p. take (c * (d / n)) v ++ units p) (same_points first.0 rest (ap (λ m. drop m w) bytes ∙ sym same)))

-- what was written, and the units `r` that are left, are what was written before the first units `q` of a block, and the block's
pub written_again : (x a f q r u v : List ℕ) (at : ℕ) → at ≤ length x → take at x ++ r ≡ a ++ u → u ≡ f ++ v → v ≡ q ++ r
    → (length q ≤ at) × (take (at - length q) x ++ v ≡ take at x ++ r) × (at - length q + length v ≡ at + length r)
written_again x a f q r u v at within written back again =
    let count : length a + length f + length q ≡ at =
    omega (arith, ap length written, ap length back, ap length again, length-append {A = ℕ}, length-take {A = ℕ}) in
    let whole : take (at - length q) x ++ v ≡ take at x ++ r =
    same_lists _ _ (omega (arith, ap length again, length-append {A = ℕ}, length-take {A = ℕ}))
    (λ k d l. grind (arith, places, get_of written k d, get_of back (k - length a) d)) in
    (omega (arith, count), whole, omega (arith, ap length again, length-append {A = ℕ}))

-- the units of the first code point are the next ones
pub begins_with_first : (w v : List ℕ) (p n : ℕ) → 0 < length w → FirstPointIs w p n → units_of p ≡ v → BeginsWithUnits w v n
begins_with_first w v p n some read own h =
    let first = first_of h some in
    let is = read first.0 in (
      IsWellFormed-equal_bytes first.1.rest (ap (λ m. drop m w) is.1),
      ap units first.1.joined ∙ ap (λ u. u ++ units first.1.rest.points) (ap units_of (sym is.0) ∙ own),
    )

-- so are ASCII bytes at the front
pub begins_with_ascii : (w v : List ℕ) (n : ℕ) → n ≤ length w → v ≡ take n w → AreAscii v → BeginsWithUnits w v n
begins_with_ascii w v zero within same ascii h = (h, ap (λ v. v ++ units h.points) (sym same))
begins_with_ascii [] v (suc n) within same ascii h = absurd (omega (arith, within))
begins_with_ascii (a ∷ w) v (suc n) within same ascii h =
    let low = subst AreAscii same ascii in
    let first = begins_with_first (a ∷ w) (a ∷ []) a 1 (omega arith) (λ b. let one = b.by_lead.one low.0 in (sym one.0, sym one.1)) (units_one a (omega (arith, low.0))) h in
    let more = begins_with_ascii w (take n w) n (omega (arith, within)) refl low.1 first.0 in
    (more.0, first.1 ∙ (ap (λ u. a ∷ u) more.1 ∙ ap (λ v. v ++ units more.0.points) (sym same)))
