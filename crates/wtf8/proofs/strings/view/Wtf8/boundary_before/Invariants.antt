use Rattle.wtf8.proofs.Common.{ℕ, ◌≤◌, IsBoundary, view_units}
use Rattle.wtf8.proofs.strings.view.Wtf8.boundary_before.Given as goal

-- no code point boundary is after `boundary` and at or before `position`
abbrev pub invariant-loop-boundary : goal.invariant-loop-boundary
invariant-loop-boundary l = (l.boundary ≤ l.position) × ((k : ℕ) → IsBoundary (view_units l.self) k → k ≤ l.position → k ≤ l.boundary)

abbrev pub decreases-loop-boundary : goal.decreases-loop-boundary
decreases-loop-boundary l = l.boundary
