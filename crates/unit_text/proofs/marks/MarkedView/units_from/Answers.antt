use Rattle.std.proofs.Common.{◌∙◌, ℕ, ◌+◌, ◌≤◌, ap, length, length-drop, take, add-zero, arith}
use Rattle.std.proofs.lemmas.List.{drop-take}
use Rattle.wtf8.specs.View.{view_units}
use Rattle.unit_text.proofs.marks.MarkedView.units_from.Goals.{After-slice_units}
use Rattle.unit_text.proofs.marks.MarkedView.units_from.Goals as goal

pub slice_units-requires-clause-within : goal.slice_units-requires-clause-within
slice_units-requires-clause-within c =
    omega (arith, ap length c.rest_from_mark-at.ensures.units, length-drop {A = ℕ}, c.args.self.now.text.counted)

pub overflow_add-at : goal.overflow_add-at
overflow_add-at c =
    record { fits = omega (arith, ap length c.rest_from_mark-at.ensures.units, length-drop {A = ℕ}, c.args.self.now.text.counted) }

pub returns-clause-units : goal.returns-clause-units
returns-clause-units c =
    let found = c.rest_from_mark-at.result in
    c.slice_units.ensures.units
    ∙ (drop-take found.1 c.args.len (view_units found.0) ∙ ap (take c.args.len) c.rest_from_mark-at.ensures.units)

within : (c : After-slice_units) → c.rest_from_mark-at.result.1 + c.args.len ≤ length (view_units c.rest_from_mark-at.result.0)
within c =
    omega (arith, ap length c.rest_from_mark-at.ensures.units, length-drop {A = ℕ}, c.args.self.now.text.counted, c.requires.within)

pub returns-clause-trail : goal.returns-clause-trail
returns-clause-trail c some =
    let found = c.rest_from_mark-at.result in
    let same = rw (add-zero found.1, add-zero c.args.begin) at (c.rest_from_mark-at.ensures.pairs 0 (omega (arith, within c))) in
    let own = c.slice_units.ensures.trail (omega (arith, some)) in
    (λ x. same.0 (own.0 x), λ x. own.1 (same.1 x))

pub returns-clause-lead : goal.returns-clause-lead
returns-clause-lead c some =
    let same = c.rest_from_mark-at.ensures.pairs c.args.len (within c) in
    let own = c.slice_units.ensures.lead (omega (arith, some)) in
    (λ x. same.0 (own.0 x), λ x. own.1 (same.1 x))
