use Rattle.std.proofs.Common.{◌+◌, ◌-◌, arith}
use Rattle.wtf8.specs.View.{view_units, view_form}
use Rattle.unit_text.proofs.MarkLemmas.{divides_after_undivided}
use Rattle.unit_text.proofs.marks.MarkedView.rest_from_mark.Goals as goal

pub returns-clause-pairs : goal.returns-clause-pairs
returns-clause-pairs c n l =
    let view = c.args.self.now.text.view in
    let found = c.mark_at_or_before-mark.ensures in
    let mark = c.mark_at_or_before-mark.result in
    let whole = c.law_marks.ensures.no_pair view.bytes.now (view_units view) mark.position mark.units (view_form view) found.mark in
    divides_after_undivided (view_units view) (view_units c.slice_from_mark.result) mark.units (c.args.units - mark.units + n)
    (omega (arith, found.before)) found.mark.units_within c.slice_from_mark.ensures.units whole l
