use Rattle.std.proofs.Common.{ℕ, ◌+◌, ◌≤◌, ap, ◌∙◌, take, append-nil, arith}
use Rattle.std.proofs.lemmas.Bool.{false≢true}
use Rattle.wtf8.specs.UnitPosition.{DividesPair}
use Rattle.wtf8.specs.View.{view_units, view_form}
use Rattle.unit_text.proofs.marks.MarkedView.ascii_part.Goals.{After-slice_to}
use Rattle.unit_text.proofs.marks.MarkedView.ascii_part.Goals as goal

pub returns-clause-units : goal.returns-clause-units
returns-clause-units c =
    let whole = view_units c.slice_to.result in
    append-nil whole
    ∙ (c.law_mark.ensures.front whole c.slice_to.ensures.units ∙ ap (take c.args.len) c.slice_from_mark-rest.ensures.units)

-- no cut of an ASCII text divides a pair
divides_none : (c : After-slice_to) (k : ℕ) → k ≤ c.args.self.now.text.count → ¬ (DividesPair (view_units c.args.self.now.text.view) k)
divides_none c k within =
    let view = c.args.self.now.text.view in
    let mark = c.law_marks.ensures.equal view.bytes.now (view_units view) k (view_form view) c.requires.ascii
    (omega (arith, within, c.args.self.now.text.counted, c.requires.ascii)) in
    c.law_marks.ensures.no_pair view.bytes.now (view_units view) k k (view_form view) mark

pub returns-clause-trail : goal.returns-clause-trail
returns-clause-trail c some =
    (λ x. absurd (false≢true x), λ d. absurd (divides_none c c.args.begin (omega (arith, c.requires.within)) d))

pub returns-clause-lead : goal.returns-clause-lead
returns-clause-lead c some =
    (λ x. absurd (false≢true x), λ d. absurd (divides_none c (c.args.begin + c.args.len) c.requires.within d))
