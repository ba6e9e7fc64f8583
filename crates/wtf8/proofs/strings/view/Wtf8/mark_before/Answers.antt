use Rattle.wtf8.proofs.Common.{arith, subst, view_units}
use Rattle.wtf8.proofs.lemmas.units.UnitMarks.{boundary_of_mark, mark_after}
use Rattle.wtf8.specs.UnitMark.{IsMark}
use Rattle.wtf8.proofs.strings.view.Wtf8.mark_before.Goals as goal

pub slice-requires-clause-order : goal.slice-requires-clause-order
slice-requires-clause-order c =
    c.boundary_before-position.ensures.last _ (boundary_of_mark c.args.self.now.well_formed c.requires.mark) c.requires.order

pub slice-requires-clause-begin_boundary : goal.slice-requires-clause-begin_boundary
slice-requires-clause-begin_boundary c = boundary_of_mark c.args.self.now.well_formed c.requires.mark

pub returns-clause-mark : goal.returns-clause-mark
returns-clause-mark c = subst (IsMark c.args.self.now.bytes.now (view_units c.args.self.now) c.boundary_before-position.result)
    (omega (arith, c.unit_len-more.ensures)) (mark_after c.args.self.now.well_formed _ c.requires.mark c.slice.ensures.units)

pub returns-clause-after : goal.returns-clause-after
returns-clause-after c = (
  c.boundary_before-position.ensures.last _ (boundary_of_mark c.args.self.now.well_formed c.requires.mark) c.requires.order,
  omega arith,
)
