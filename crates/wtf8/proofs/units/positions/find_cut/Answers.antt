use Rattle.wtf8.proofs.Common.{ap, length, arith}
use Rattle.wtf8.proofs.lemmas.codec.Readings.{lists_have_lengths}
use Rattle.wtf8.proofs.lemmas.strings.Positions.{boundary_of}
use Rattle.wtf8.proofs.lemmas.units.UnitCuts.{all_before, in_pair_at_cursor, points_about_unit}
use Rattle.wtf8.proofs.units.positions.find_cut.Goals as goal

pub returns-then-view-n-clause-none : goal.returns-then-view-n-clause-none
returns-then-view-n-clause-none c =
    let own = c.args.view.well_formed in
    omega (arith, (lists_have_lengths own.points).units_least, ap length own.encoded, c.if-view-n.true)

pub returns-then-cut-view-clause-none : goal.returns-then-cut-view-clause-none
returns-then-cut-view-clause-none c =
    let all = all_before c.args.view.well_formed c.args.n c.find_unit-cut.result c.find_unit-cut.ensures c.if-cut-view.true in
    omega (arith, all, c.if-cut-n.true)

pub returns-clause-boundary : goal.returns-clause-boundary
returns-clause-boundary c =
    let x = (points_about_unit c.args.view.well_formed c.args.n c.find_unit-cut.result c.find_unit-cut.ensures).cut in
    boundary_of c.args.view.well_formed x.front x.back _ x.joined x.front_len

pub returns-clause-divided : goal.returns-clause-divided
returns-clause-divided c less =
    let h = c.args.view.well_formed in
    let x = points_about_unit h c.args.n c.find_unit-cut.result c.find_unit-cut.ensures in
    omega (arith, (in_pair_at_cursor x (grind (arith, less, ap length h.encoded)) (omega (arith, less))).divided.long, ap length h.encoded)
