use Rattle.std.proofs.Common.{◌≢◌, ℕ, ◌<◌, ◌≤◌, length, slice_index}
use Rattle.wtf8_uses.proofs.file_names.cut_at_last.Given as goal

-- no byte from `index` on is `separator` or `other`
abbrev pub invariant-loop-index : goal.invariant-loop-index
invariant-loop-index l = (j : ℕ) → l.index ≤ j → j < length l.text.bytes.now → (slice_index l.text.bytes.now j ≢ l.separator)
    × (slice_index l.text.bytes.now j ≢ l.other)
