-- `dedup` of strings, by their units, and their order by code points.
use Rattle.std.proofs.Common.{◌≡◌, ℕ, Bool, true, false, cond, List, [], ◌∷◌, refl, ap}
use Rattle.std.specs.Cmp.{both_ways}
use Rattle.std.specs.Cmp.Lexicographic.{slice_cmp, pointwise, bytes_decides}
use Rattle.std.specs.List.{dedup, dedup_from}
use Rattle.std.specs.Ordering.{nat_cmp}
use Rattle.std.specs.Prelude.{nat_eq}
use Rattle.wtf8.specs.StringLaws.{BytesCompareAsPoints, EqualBuffersHaveEqualUnits}
use Rattle.wtf8.specs.UnitString.{UnitString}
use Rattle.wtf8_uses.specs.Numbered.{units_of_strings}

abbrev pub are_equal : List ℕ → List ℕ → Bool
are_equal = pointwise nat_eq

abbrev pub have_equal_bytes : UnitString → UnitString → Bool
have_equal_bytes s t = are_equal s.bytes t.bytes

module _ (law : EqualBuffersHaveEqualUnits) where
  are_equal-bytes_as_units : (s t : UnitString) → are_equal s.bytes t.bytes ≡ are_equal s.units t.units
  are_equal-bytes_as_units s t =
      let b = bytes_decides s.bytes t.bytes in
      let u = bytes_decides s.units t.units in
      both_ways _ _ (λ e. u.1 ((law s t).0 (b.0 e))) (λ e. b.1 ((law s t).1 (u.0 e)))

  units-dedup_from : (s : UnitString) (xs : List UnitString)
      → units_of_strings (dedup_from have_equal_bytes s xs) ≡ dedup_from are_equal s.units (units_of_strings xs)
  units-dedup_from s [] = refl
  units-dedup_from s (x ∷ xs) =
      let us = units_of_strings xs in
      rw (are_equal-bytes_as_units x s) (elim (are_equal x.units s.units) as
      (λ b. units_of_strings (cond b (dedup_from have_equal_bytes s xs) (s ∷ dedup_from have_equal_bytes x xs))
      ≡ cond b (dedup_from are_equal s.units us) (s.units ∷ dedup_from are_equal x.units us)) [
        | true ↦ units-dedup_from s xs
        | false ↦ ap (λ ys. s.units ∷ ys) (units-dedup_from x xs)
      ])

  -- `dedup` by bytes is `dedup` by units
  pub units-dedup : (xs : List UnitString) → units_of_strings (dedup have_equal_bytes xs) ≡ dedup are_equal (units_of_strings xs)
  units-dedup [] = refl
  units-dedup (x ∷ xs) = units-dedup_from x xs

-- strings compare by bytes as by code points
pub slice_cmp-bytes_as_points : BytesCompareAsPoints → (s t : UnitString)
    → slice_cmp nat_cmp s.bytes t.bytes ≡ slice_cmp nat_cmp s.form.points t.form.points
slice_cmp-bytes_as_points law s t = cc (law s.form.points t.form.points, s.form.encoded, t.form.encoded)
