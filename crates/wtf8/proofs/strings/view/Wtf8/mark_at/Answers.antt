use Rattle.wtf8.proofs.Common.{◌+◌, ◌-◌, ◌∙◌, inl, inr, ap, arith, length, length-drop, cases_lt}
use Rattle.wtf8.proofs.lemmas.strings.Positions.{PointsAbout}
use Rattle.wtf8.proofs.lemmas.units.UnitCuts.{divides_some, in_pair_at_cursor, points_about_unit}
use Rattle.wtf8.proofs.lemmas.units.UnitMarks.{mark_at_cut, points_from_mark}
use Rattle.wtf8.proofs.strings.view.Wtf8.mark_at.Goals.{After-cut_at-cut}
use Rattle.wtf8.proofs.strings.view.Wtf8.mark_at.Goals as goal

-- the cursor of the part after the mark, as one of the whole string
about : (c : After-cut_at-cut) → PointsAbout c.args.self.now.well_formed.points c.args.units
    (record { position = c.args.from.position + c.cut_at-cut.result.position; units = c.args.from.units + c.cut_at-cut.result.units })
about c =
    let rest = c.slice_from_mark.result.well_formed in
    points_from_mark c.args.self.now.well_formed rest c.requires.mark c.slice_from_mark.ensures.bytes c.requires.order
    (points_about_unit rest (c.args.units - c.args.from.units) c.cut_at-cut.result c.cut_at-cut.ensures.cursor)

pub returns-clause-mark : goal.returns-clause-mark
returns-clause-mark c = mark_at_cut c.args.self.now.well_formed (about (goal.at.returns-clause-mark c).After-cut_at-cut).cut

pub returns-clause-last : goal.returns-clause-last
returns-clause-last c =
    let h = c.args.self.now.well_formed in
    elim (cases_lt (c.args.from.units + c.cut_at-cut.result.units) c.args.units) [
      | inl less ↦
          let inside = c.cut_at-cut.ensures.divided (omega (arith, less)) in
          let part = ap length c.slice_from_mark.ensures.bytes ∙ length-drop c.args.from.position c.args.self.now.bytes.now in
          let x = in_pair_at_cursor (about (goal.at.returns-clause-last c).After-cut_at-cut)
          (omega (arith, inside, part, ap length h.encoded)) (omega (arith, less)) in
          inr (x.one_less, divides_some h.clean x.divided)
      | inr all ↦ inl (omega (arith, all, c.cut_at-cut.ensures.cursor.before.not_beyond, c.requires.order))
    ]

pub returns-clause-exact : goal.returns-clause-exact
returns-clause-exact c = λ whole. elim (returns-clause-last c) [
  | inl same ↦ same
  | inr less ↦ absurd (whole less.1)
]
