use Rattle.std.proofs.Common.{◌≡◌, ℕ, List, [], ◌∷◌, length, inl, inr, refl, ap, subst, ◌∙◌, arith, length-take}
use Rattle.std.proofs.Math.Nat.{min-eq_right}
use Rattle.std.proofs.lemmas.Bool.{cases_lt}
use Rattle.std.proofs.lemmas.List.{take_all, take_at}
use Rattle.wtf8.specs.Form.{IsClean}
use Rattle.wtf8.specs.Surrogates.{AreScalar}
use Rattle.wtf8.specs.Unicode.{units}
use Rattle.wtf8.specs.View.{view_points}
use Rattle.wtf8.proofs.lemmas.codec.Readings.{clean-first, clean-rest, units-cons_one, units-cons_two}
use Rattle.wtf8_c.proofs.Walks.{few_points, few_units}
use Rattle.wtf8_c.proofs.points_out.copy_part.Goals as goal

-- code points none of whose units is a surrogate are their units
points_are_units : (c : List ℕ) → IsClean c → AreScalar (units c) → units c ≡ c
points_are_units [] h s = refl
points_are_units (p ∷ c) h s = elim (cases_lt p 0x10000) [
  | inl l ↦
      let one = units-cons_one p c l in
      one ∙ ap (λ u. p ∷ u) (points_are_units c (clean-rest p c h) (subst AreScalar one s).1)
  | inr m ↦ absurd ((subst AreScalar (units-cons_two p c m) s).0 (omega (arith, m, clean-first p c h), omega (arith, m, clean-first p c h)))
]

pub write_units-n-requires : goal.write_units-n-requires
write_units-n-requires c = omega (arith, few_units c.args.part, c.requires.short)

pub returns-then-has_surrogate-clause-count : goal.returns-then-has_surrogate-clause-count
returns-then-has_surrogate-clause-count c =
    c.copy_one_by_one-count.ensures.count ∙ min-eq_right (omega (arith, few_points c.args.part, c.requires.room))

pub returns-then-has_surrogate-clause-points : goal.returns-then-has_surrogate-clause-points
returns-then-has_surrogate-clause-points c =
    let all : c.copy_one_by_one-count.result.0 ≡ length (view_points c.args.part) =
    c.copy_one_by_one-count.ensures.count ∙ min-eq_right (omega (arith, few_points c.args.part, c.requires.room)) in
    c.copy_one_by_one-count.ensures.points ∙ take_all c.copy_one_by_one-count.result.0 (view_points c.args.part) (omega (arith, all))

pub slice_bounds-widen-end : goal.slice_bounds-widen-end
slice_bounds-widen-end c = omega (arith, c.write_units-n.ensures.count, few_units c.args.part, c.requires.room)

pub slice_bounds-widen-end-2 : goal.slice_bounds-widen-end-2
slice_bounds-widen-end-2 c =
    omega (
      arith,
      c.write_units-n.ensures.count,
      few_units c.args.part,
      c.requires.room,
      length-take c.write_units-n.result c.args.out.now,
    )

pub widen-requires : goal.widen-requires
widen-requires c =
    omega (
      arith,
      c.write_units-n.ensures.count,
      few_units c.args.part,
      c.requires.room,
      length-take c.write_units-n.result c.args.out.now,
      ap length c.write_units-n.ensures.units,
    )

pub returns-clause-count : goal.returns-clause-count
returns-clause-count c =
    let part = c.args.part in
    let scalar = subst AreScalar c.write_units-n.ensures.units (c.has_surrogate.ensures c.if-has_surrogate.false) in
    let same = points_are_units (view_points part) part.well_formed.clean scalar in
    omega (arith, c.write_units-n.ensures.count, ap length same)

pub returns-clause-points : goal.returns-clause-points
returns-clause-points c =
    let part = c.args.part in
    let units_are = c.write_units-n.ensures.units in
    let scalar = subst AreScalar units_are (c.has_surrogate.ensures c.if-has_surrogate.false) in
    let same = points_are_units (view_points part) part.well_formed.clean scalar in
    take_at c.widen.new.out _ c.write_units-n.result (omega (arith, ap length (c.widen.ensures ∙ units_are), c.write_units-n.ensures.count))
    ∙ (c.widen.ensures ∙ (units_are ∙ same))
