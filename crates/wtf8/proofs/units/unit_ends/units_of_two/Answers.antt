use Rattle.wtf8.proofs.Common.{arith}
use Rattle.std.proofs.lemmas.Simd.{Each1-all, Each2-splat}
use Rattle.wtf8.proofs.lemmas.units.UnitLanes.{low_lanes-block, high_of_two_lanes-block}
use Rattle.wtf8.proofs.units.unit_ends.units_of_two.Goals as goal

pub nonzero_rem-result : goal.nonzero_rem-result
nonzero_rem-result c = Each2-splat _ c.args.bytes 32 128 (Each1-all _ (λ x. omega arith) c.args.bytes)

pub nonzero_div-result : goal.nonzero_div-result
nonzero_div-result c = Each2-splat _ _ 32 4 (Each1-all _ (λ x. omega arith) _)

pub nonzero_rem-result-2 : goal.nonzero_rem-result-2
nonzero_rem-result-2 c = Each2-splat _ _ 32 16 (Each1-all _ (λ x. omega arith) _)

pub returns-clause-low : goal.returns-clause-low
returns-clause-low c = rw c.requires (low_lanes-block c.args.bytes c.fits-bytes.0)

pub returns-clause-high : goal.returns-clause-high
returns-clause-high c = rw c.requires (high_of_two_lanes-block c.args.bytes c.fits-bytes.0)
