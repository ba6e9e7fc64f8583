use Rattle.std.proofs.Common.{◌≡◌, ℕ, ◌+◌, ◌<◌, ◌≤◌, List, [], ◌∷◌, ◌++◌, length, take, get_or, slice_set, refl, sym, ap, ◌∙◌, arith, append_assoc}
use Rattle.std.proofs.lemmas.Grind.{take-set_at}
use Rattle.std.proofs.lemmas.List.{length-set, take_more}
use Rattle.wtf8.specs.Unicode.{units, units_of}
use Rattle.wtf8.proofs.lemmas.codec.Readings.{lead_of, trail_of, units-pushed, units_one, units_two}
use Rattle.wtf8_c.proofs.points_in.write_pairs.Goals.{then-point-lt65536, else-point-lt65536}
use Rattle.wtf8_c.proofs.points_in.write_pairs.Goals as goal

-- the units of one more code point
next_units : (points : List ℕ) (at : ℕ) → at < length points → units (take (at + 1) points) ≡ units (take at points) ++ units_of (get_or points at 0)
next_units points at l = ap units (take_more points at 0 l) ∙ units-pushed (take at points) (get_or points at 0)

-- one more unit is written
one_on : (block points : List ℕ) (n at y : ℕ) → at < length points → n < length block → take n block ≡ units (take at points)
    → get_or points at 0 < 0x10000 → y ≡ get_or points at 0 → take (n + 1) (slice_set block n y) ≡ units (take (at + 1) points)
one_on block points n at y l m written low is =
    take-set_at block n (n + 1) y refl m ∙ (ap (λ v. v ++ y ∷ []) written ∙ (ap (λ x. units (take at points) ++ x ∷ []) is
    ∙ sym (next_units points at l ∙ ap (λ v. units (take at points) ++ v) (units_one (get_or points at 0) low))))

-- the two units of a pair are written
two_on : (block points : List ℕ) (n at a b : ℕ) → at < length points → n + 1 < length block → take n block ≡ units (take at points)
    → 0x10000 ≤ get_or points at 0 → a ≡ lead_of (get_or points at 0) → b ≡ trail_of (get_or points at 0)
    → take (n + 2) (slice_set (slice_set block n a) (n + 1) b) ≡ units (take (at + 1) points)
two_on block points n at a b l m written high is_lead is_trail =
    let p = get_or points at 0 in
    let done = units (take at points) in
    take-set_at (slice_set block n a) (n + 1) (n + 2) b (omega arith) (omega (arith, m, length-set block n a))
    ∙ (ap (λ v. v ++ b ∷ []) (take-set_at block n (n + 1) a refl (omega (arith, m)))
    ∙ (append_assoc (take n block) (a ∷ []) (b ∷ [])
    ∙ (ap (λ v. v ++ a ∷ b ∷ []) written ∙ (ap (λ x. done ++ x ∷ b ∷ []) is_lead ∙ (ap (λ x. done ++ lead_of p ∷ x ∷ []) is_trail
    ∙ sym (next_units points at l ∙ ap (λ v. done ++ v) (units_two p high)))))))

pub loop-at-preserved : goal.loop-at-preserved
loop-at-preserved c =
    let block = c.loop-at.block in
    let points = c.args.points.now in
    let n = c.loop-at.n in
    let at = c.loop-at.at in
    let inv = c.loop-at.invariant in
    let room : n + 1 < length block = omega (arith, inv.within, inv.size, c.requires.short, c.loop-at-test.true) in
    elim c.if-point-lt65536.branch [
      | then-point-lt65536 w ↦ record {
        written = ap (λ k. take k c.if-point-lt65536.block) w.n-is ∙ (ap (take (n + 1)) w.block-is
            ∙ one_on block points n at _ c.loop-at-test.true (omega (arith, room)) inv.written w.if-point-lt65536.true refl);
        within = omega (arith, w.n-is, inv.within);
        size = c.if-point-lt65536.array_long;
      }
      | else-point-lt65536 w ↦ record {
        written = ap (λ k. take k c.if-point-lt65536.block) w.n-is ∙ (ap (take (n + 2)) w.block-is
            ∙ two_on block points n at _ _ c.loop-at-test.true room inv.written w.if-point-lt65536.false refl refl);
        within = omega (arith, w.n-is, inv.within);
        size = c.if-point-lt65536.array_long;
      }
    ]
