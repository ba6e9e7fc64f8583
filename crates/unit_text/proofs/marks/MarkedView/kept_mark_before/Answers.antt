use Rattle.std.proofs.Common.{◌-◌, arith, rules}
use Rattle.std.specs.Prelude.{slice_index_or}
use Rattle.wtf8.specs.View.{view_units, view_form}
use Rattle.wtf8.specs.declared.units.marks.UnitMark.{UnitMark}
use Rattle.unit_text.proofs.PositionLemmas.{kept_mark_before_is_close}
use Rattle.unit_text.proofs.marks.MarkedView.kept_mark_before.Goals as goal

pub returns-then-low-eq0-clause-close : goal.returns-then-low-eq0-clause-close
returns-then-low-eq0-clause-close c = λ not_ascii enough.
    let view = c.args.self.now.text.view in
    let start : UnitMark = record { position = 0; units = 0 } in
    kept_mark_before_is_close c.law_marks.ensures.order view.bytes.now (view_units view) c.args.self.now.marks.now (view_form view)
    c.args.self.now.kept enough not_ascii c.loop-low.low c.args.position c.start_mark.result.units start
    (omega arith) (search rules) (omega arith)

pub returns-clause-close : goal.returns-clause-close
returns-clause-close c = λ not_ascii enough.
    let view = c.args.self.now.text.view in
    let marks = c.args.self.now.marks.now in
    let start : UnitMark = record { position = 0; units = 0 } in
    let kept = c.args.self.now.kept (c.loop-low.low - 1) start (omega arith) in
    kept_mark_before_is_close c.law_marks.ensures.order view.bytes.now (view_units view) marks (view_form view)
    c.args.self.now.kept enough not_ascii c.loop-low.low c.args.position (slice_index_or marks (c.loop-low.low - 1) start).units start
    (omega arith) (search rules) (omega (arith, kept.at_least))
