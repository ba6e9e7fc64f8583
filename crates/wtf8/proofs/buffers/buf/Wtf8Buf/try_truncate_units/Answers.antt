use Rattle.wtf8.proofs.Common.{arith, subst, inl, inr, refl, cases_lt}
use Rattle.wtf8.proofs.lemmas.units.UnitCuts.{divides_some, in_pair_at, points_about_unit}
use Rattle.wtf8.proofs.lemmas.units.UnitMarks.{mark_at_cut, within_rounded}
use Rattle.wtf8.specs.UnitMark.{IsMark, RoundsDownTo}
use Rattle.wtf8.proofs.buffers.buf.Wtf8Buf.try_truncate_units.Goals.{After-truncate_units_at-arg-1}
use Rattle.wtf8.proofs.buffers.buf.Wtf8Buf.try_truncate_units.Goals as goal

pub truncate_units_at-requires-clause-mark : goal.truncate_units_at-requires-clause-mark
truncate_units_at-requires-clause-mark g c =
    let view = c.as_wtf8.result in
    let cut = c.in-Some.cut in
    let own = mark_at_cut view.well_formed (points_about_unit view.well_formed c.args.n cut c.in-Some.ensures.some).cut in
    subst (λ w. IsMark w c.args.self.now.units cut.position cut.units) c.as_wtf8.ensures.bytes
    (subst (λ u. IsMark view.bytes.now u cut.position cut.units) c.as_wtf8.ensures.units own)

pub truncate_units_at-requires-clause-last : goal.truncate_units_at-requires-clause-last
truncate_units_at-requires-clause-last g c =
    let h = c.as_wtf8.result.well_formed in
    let cut = c.in-Some.cut in
    let is = c.in-Some.ensures.some in
    elim (cases_lt cut.units c.args.n) [
      | inl less ↦
          let x = in_pair_at h c.args.n cut is c.in-Some.ensures.divided (omega (arith, less)) in
          subst (λ u. RoundsDownTo u c.args.n cut.units) c.as_wtf8.ensures.units (inr (x.one_less, divides_some h.clean x.divided))
      | inr all ↦ inl (omega (arith, all, is.before.not_beyond))
    ]

pub returns-clause-units : goal.returns-clause-units
returns-clause-units g c =
    let found = (goal.at.returns-clause-units g c).After-truncate_units_at-arg-1 in
    let within = within_rounded (truncate_units_at-requires-clause-mark g found) (truncate_units_at-requires-clause-last g found) in
    inl (within, c.truncate_units_at.ensures.units, refl)
