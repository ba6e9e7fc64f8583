use Rattle.std.proofs.Common.{ℕ, ◌≢◌, ◌<◌, ◌≤◌, ◌-◌, length, get_or}
use Rattle.dump_lines.proofs.split.skip_blocks_without.Given as goal

-- no byte so far is a separator
abbrev pub invariant-loop-at : goal.invariant-loop-at
invariant-loop-at l = record {
  within : l.at ≤ length l.bytes;
  none : (k : ℕ) → k < l.at → get_or l.bytes k 0 ≢ l.separator;
}

abbrev pub decreases-loop-at : goal.decreases-loop-at
decreases-loop-at l = length l.bytes - l.at
