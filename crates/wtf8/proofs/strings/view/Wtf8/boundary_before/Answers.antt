use Rattle.wtf8.proofs.Common.{ℕ, ◌<◌, zero, suc, sym, ◌∙◌, arith, false≢true, cases_lt, view_units, view_form, IsBoundary}
use Rattle.wtf8.proofs.lemmas.strings.PositionLaws.{start_is_boundary}
use Rattle.wtf8.proofs.strings.view.Wtf8.boundary_before.Goals as goal

no_boundary : (c : goal.In-loop-boundary) → ¬ (IsBoundary (view_units c.args.self.now) c.loop-boundary.boundary)
no_boundary c b = false≢true (sym c.loop-boundary-test.true ∙ c.is_code_point_boundary.ensures.1 b)

-- the start is a boundary
positive : (c : goal.In-loop-boundary) → 0 < c.loop-boundary.boundary
positive c = past_start c.loop-boundary.boundary (no_boundary c)
  where
    past_start : (k : ℕ) → ¬ (IsBoundary (view_units c.args.self.now) k) → 0 < k
    past_start zero none = absurd (none (start_is_boundary _ _ (view_form c.args.self.now)))
    past_start (suc k) none = omega arith

pub loop-boundary-init : goal.loop-boundary-init
loop-boundary-init c = (omega arith, λ k b l. omega (arith, l))

pub overflow_sub-boundary : goal.overflow_sub-boundary
overflow_sub-boundary c = positive c

pub loop-boundary-smaller : goal.loop-boundary-smaller
loop-boundary-smaller c = omega (arith, positive c)

pub loop-boundary-preserved : goal.loop-boundary-preserved
loop-boundary-preserved c = grind (arith, cases_lt, no_boundary, c.loop-boundary.invariant.0, c.loop-boundary.invariant.1)
