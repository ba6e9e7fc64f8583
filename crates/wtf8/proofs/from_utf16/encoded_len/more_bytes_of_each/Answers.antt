use Rattle.wtf8.proofs.Common.{arith}
use Rattle.std.proofs.lemmas.Simd.{Each1-all, Each2-splat}
use Rattle.wtf8.proofs.lemmas.from_utf16.EncodedLen.{more_bytes_lanes-zip2}
use Rattle.wtf8.proofs.from_utf16.encoded_len.more_bytes_of_each.Goals as goal

pub nonzero_div-leads : goal.nonzero_div-leads
nonzero_div-leads g c = Each2-splat _ c.args.units g.row.N 1024 (Each1-all _ (λ x. omega arith) c.args.units)

pub nonzero_div-trails : goal.nonzero_div-trails
nonzero_div-trails g c = Each2-splat _ c.args.next g.row.N 1024 (Each1-all _ (λ x. omega arith) c.args.next)

pub nonzero_div-second : goal.nonzero_div-second
nonzero_div-second g c = Each2-splat _ c.args.units g.row.N 128 (Each1-all _ (λ x. omega arith) c.args.units)

pub nonzero_div-third : goal.nonzero_div-third
nonzero_div-third g c = Each2-splat _ c.args.units g.row.N 2048 (Each1-all _ (λ x. omega arith) c.args.units)

pub returns : goal.returns
returns g c = more_bytes_lanes-zip2 g.row.N c.args.units c.args.next c.fits-units.0 c.fits-next.0
