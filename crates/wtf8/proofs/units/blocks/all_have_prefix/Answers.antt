use Rattle.wtf8.proofs.Common.{arith, eqb-true}
use Rattle.std.proofs.lemmas.Simd.{Each1-all, Each2-splat}
use Rattle.wtf8.proofs.lemmas.units.FullBlocks.{all_quotients}
use Rattle.wtf8.proofs.units.blocks.all_have_prefix.Goals as goal

pub nonzero_div-kinds : goal.nonzero_div-kinds
nonzero_div-kinds g c = Each2-splat _ c.args.lanes g.row.N c.args.size (Each1-all _ (λ x. omega (arith, c.requires.size)) c.args.lanes)

pub returns : goal.returns
returns g c t = all_quotients c.args.size c.args.prefix g.row.N c.args.lanes c.requires.lanes c.fits-lanes.0 (eqb-true _ 0 t)
