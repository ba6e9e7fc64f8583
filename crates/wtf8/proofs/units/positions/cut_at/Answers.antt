use Rattle.wtf8.proofs.Common.{ap, length, arith, inl, inr, cases_lt}
use Rattle.wtf8.proofs.lemmas.strings.Positions.{boundary_of}
use Rattle.wtf8.proofs.lemmas.units.UnitCuts.{all_before, in_pair_at_cursor, points_about_unit}
use Rattle.wtf8.proofs.units.positions.cut_at.Goals as goal

pub returns-clause-boundary : goal.returns-clause-boundary
returns-clause-boundary c =
    let x = (points_about_unit c.args.view.well_formed c.args.n c.find_unit.result c.find_unit.ensures).cut in
    boundary_of c.args.view.well_formed x.front x.back _ x.joined x.front_len

pub returns-clause-divided : goal.returns-clause-divided
returns-clause-divided c less =
    let h = c.args.view.well_formed in
    let is = c.find_unit.ensures in
    elim (cases_lt c.find_unit.result.position (length c.args.view.bytes.now)) [
      | inl inside ↦
          let x = points_about_unit h c.args.n c.find_unit.result is in
          let pair = in_pair_at_cursor x (omega (arith, inside, ap length h.encoded)) (omega (arith, less)) in
          omega (arith, pair.divided.long, ap length h.encoded)
      | inr end ↦
          let all = all_before h c.args.n c.find_unit.result is (omega (arith, end, is.before.within)) in
          absurd (omega (arith, all, less, c.requires))
    ]
