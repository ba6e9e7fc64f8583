use Rattle.wtf8.proofs.Common.{ℕ, ◌≤◌, ◌<◌, length, slice_index}
use Rattle.wtf8.proofs.strings.lossy.finished_len.Given as goal

abbrev pub invariant-loop-at : goal.invariant-loop-at
invariant-loop-at l = record {
  within : l.at ≤ length l.text;
  later : (k : ℕ) → l.at ≤ k → k < length l.text → slice_index l.text k < 0xC0;
}

abbrev pub decreases-loop-at : goal.decreases-loop-at
decreases-loop-at l = l.at
