use Rattle.std.proofs.Common.{◌≤◌, ℕ, sym, subst, arith, IfNone}
use Rattle.unit_text.specs.Search.{OccursAt}
use Rattle.unit_text.proofs.SearchLemmas.{first_of_rest, none_of_rest}
use Rattle.unit_text.proofs.indexed.IndexedBuf.+find_units.Goals as goal

pub returns-in_err-index-clause-none : goal.returns-in_err-index-clause-none
returns-in_err-index-clause-none g t c =
    let u = c.args.self.now.units in
    let none = none_of_rest u c.args.units.now c.args.from (omega arith)
    (rw c.units_from.ensures.units at (rw c.in-Some.ensures.units at (rw c.pattern_of.ensures.units at c.in_err-index.ensures))) in
    subst (λ r. IfNone r ((k : ℕ) → c.args.from ≤ k → ¬ (OccursAt u c.args.units.now k))) (sym c.from_residual-in_err-index.ensures) none

pub returns-in-Some-clause-some : goal.returns-in-Some-clause-some
returns-in-Some-clause-some g t c =
    first_of_rest c.args.self.now.units c.args.units.now c.args.from (omega arith) c.in_ok-index.index
    (rw c.units_from.ensures.units at (rw c.in-Some.ensures.units at (rw c.pattern_of.ensures.units at c.in_ok-index.ensures)))
