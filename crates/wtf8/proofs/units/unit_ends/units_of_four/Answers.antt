use Rattle.wtf8.proofs.Common.{arith}
use Rattle.std.proofs.lemmas.Simd.{Each1-all, Each2-splat}
use Rattle.wtf8.proofs.lemmas.units.UnitLanes.{any_low_lanes-block, any_high_lanes-block}
use Rattle.wtf8.proofs.units.unit_ends.units_of_four.Goals as goal

pub nonzero_div-lead_low : goal.nonzero_div-lead_low
nonzero_div-lead_low c = Each2-splat _ c.args.low 32 16 (Each1-all _ (λ x. omega arith) c.args.low)

pub nonzero_div-lead_high : goal.nonzero_div-lead_high
nonzero_div-lead_high c = Each2-splat _ _ 32 16 (Each1-all _ (λ x. omega arith) _)

pub nonzero_rem-trail_high : goal.nonzero_rem-trail_high
nonzero_rem-trail_high c = Each2-splat _ c.args.high 32 4 (Each1-all _ (λ x. omega arith) c.args.high)

pub returns-clause-low : goal.returns-clause-low
returns-clause-low c = rw (c.requires.excess, c.requires.low, c.requires.high) (any_low_lanes-block c.args.bytes c.fits-bytes.0)

pub returns-clause-high : goal.returns-clause-high
returns-clause-high c = rw c.requires.high (any_high_lanes-block c.args.bytes c.args.excess c.fits-bytes.0 c.requires.excess)
