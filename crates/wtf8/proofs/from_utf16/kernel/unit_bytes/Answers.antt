use Rattle.wtf8.proofs.Common.{arith, eqb-true}
use Rattle.wtf8.proofs.lemmas.lanes.AsciiFronts.{by_all}
use Rattle.wtf8.proofs.lemmas.from_utf16.Kernel.{pair_lanes, units-from_lone_mask}
use Rattle.wtf8.proofs.from_utf16.kernel.unit_bytes.Goals as goal

pub returns-clause-bytes : goal.returns-clause-bytes
returns-clause-bytes c = pair_lanes c.scalar_heads.result c.scalar_lasts.result c.scalar_flags.result c.args.units c.fits-units.0
    c.fits-units.1 c.scalar_heads.ensures c.scalar_lasts.ensures c.scalar_flags.ensures

pub returns-clause-scalar : goal.returns-clause-scalar
returns-clause-scalar c t = units-from_lone_mask c.args.units c.fits-units.0 c.fits-units.1 (eqb-true _ 0 t)

pub nonzero_div-kinds : goal.nonzero_div-kinds
nonzero_div-kinds c = by_all c.args.units 1024 (omega arith)

pub nonzero_div-surrogates : goal.nonzero_div-surrogates
nonzero_div-surrogates c = by_all c.args.units 2048 (omega arith)

pub nonzero_rem-high : goal.nonzero_rem-high
nonzero_rem-high c = by_all c.args.units 1024 (omega arith)

pub nonzero_div-lead_heads : goal.nonzero_div-lead_heads
nonzero_div-lead_heads c = by_all _ 256 (omega arith)

pub nonzero_div-lead_lasts : goal.nonzero_div-lead_lasts
nonzero_div-lead_lasts c = by_all _ 4 (omega arith)

pub nonzero_rem-lead_lasts : goal.nonzero_rem-lead_lasts
nonzero_rem-lead_lasts c = by_all _ 64 (omega arith)

pub nonzero_rem-unset_bits : goal.nonzero_rem-unset_bits
nonzero_rem-unset_bits c = search (arith, by_all)
