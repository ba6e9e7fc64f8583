use Rattle.wtf8.proofs.Common.{sym, subst, arith, view_units}
use Rattle.wtf8.proofs.lemmas.units.UnitMarks.{MarkBefore, boundary_of_mark, mark_before}
use Rattle.wtf8.proofs.strings.view.Wtf8.mark_at_most.Goals.{After-unit_len-more}
use Rattle.wtf8.proofs.strings.view.Wtf8.mark_at_most.Goals as goal

found : (c : After-unit_len-more) → MarkBefore c.args.self.now.bytes.now (view_units c.args.self.now) c.boundary_before-position.result
    c.args.from.units c.args.from.position c.unit_len-more.result
found c = subst (MarkBefore c.args.self.now.bytes.now (view_units c.args.self.now) c.boundary_before-position.result
    c.args.from.units c.args.from.position) (sym c.unit_len-more.ensures)
    (mark_before c.args.self.now.well_formed _ c.requires.mark c.slice.ensures.units)

pub slice-requires-clause-end_boundary : goal.slice-requires-clause-end_boundary
slice-requires-clause-end_boundary c = boundary_of_mark c.args.self.now.well_formed c.requires.mark

pub overflow_sub-units : goal.overflow_sub-units
overflow_sub-units c = (found (goal.at.overflow_sub-units c).After-unit_len-more).fewer

pub returns-clause-mark : goal.returns-clause-mark
returns-clause-mark c = (found (goal.at.returns-clause-mark c).After-unit_len-more).mark

pub returns-clause-order : goal.returns-clause-order
returns-clause-order c =
    let start = found (goal.at.returns-clause-order c).After-unit_len-more in
    grind (arith, start.least, start.most, c.boundary_before-position.ensures.before)
