use Rattle.std.proofs.Common.{◌≡◌, ◌-◌, ◌<◌, ◌≤◌, ℕ, length}
use Rattle.unit_text.specs.private.Search.{BeginsApart}
use Rattle.unit_text.proofs.search.next_start.Given as goal

abbrev pub invariant-loop-index : goal.invariant-loop-index
invariant-loop-index l = record {
  after : l.from ≤ l.index;
  within : l.index ≤ length l.part;
  kept : 0 < l.reached → l.index ≡ l.from;
  passed : (k : ℕ) → l.from ≤ k → k < l.index → BeginsApart l.part l.front k;
}

abbrev pub decreases-loop-index : goal.decreases-loop-index
decreases-loop-index l = length l.part - l.index
