use Rattle.std.proofs.Common.{rules}
use Rattle.wtf8.specs.View.{view_units, view_form}
use Rattle.unit_text.proofs.marks.MarkedView.mark_at.Goals as goal

pub returns-then-from-units-clause-divided : goal.returns-then-from-units-clause-divided
returns-then-from-units-clause-divided c =
    let view = c.args.self.now.text.view in
    let mark = c.mark_at_or_before-from.result in
    let whole = c.law_marks.ensures.no_pair view.bytes.now (view_units view) mark.position mark.units (view_form view)
    c.mark_at_or_before-from.ensures.mark in
    grind (rules, whole)

pub returns-clause-divided : goal.returns-clause-divided
returns-clause-divided c =
    let view = c.args.self.now.text.view in
    let mark = c.mark_at.result in
    let whole = c.law_marks.ensures.no_pair view.bytes.now (view_units view) mark.position mark.units (view_form view)
    c.mark_at.ensures.mark in
    grind (rules, whole)
