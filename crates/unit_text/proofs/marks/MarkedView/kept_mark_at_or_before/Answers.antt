use Rattle.std.proofs.Common.{◌-◌, arith, rules}
use Rattle.std.specs.Prelude.{slice_index_or}
use Rattle.wtf8.specs.View.{view_units}
use Rattle.wtf8.specs.declared.units.marks.UnitMark.{UnitMark}
use Rattle.unit_text.proofs.MarkLemmas.{chosen_mark_is_close}
use Rattle.unit_text.proofs.marks.MarkedView.kept_mark_at_or_before.Goals as goal

pub returns-then-number-eq0-clause-close : goal.returns-then-number-eq0-clause-close
returns-then-number-eq0-clause-close c = λ not_ascii enough.
    let view = c.args.self.now.text.view in
    chosen_mark_is_close view.bytes.now (view_units view) c.args.self.now.marks.now c.args.units c.start_mark.result.units 0
    enough not_ascii (omega (arith, c.args.self.now.text.counted)) (search rules) (omega arith)

pub returns-clause-close : goal.returns-clause-close
returns-clause-close c = λ not_ascii enough.
    let view = c.args.self.now.text.view in
    let marks = c.args.self.now.marks.now in
    let number = c.min-number.result in
    let start : UnitMark = record { position = 0; units = 0 } in
    let kept = c.args.self.now.kept (number - 1) start (omega arith) in
    chosen_mark_is_close view.bytes.now (view_units view) marks c.args.units (slice_index_or marks (number - 1) start).units number
    enough not_ascii (omega (arith, c.args.self.now.text.counted)) (search rules) (omega (arith, kept.at_least))
