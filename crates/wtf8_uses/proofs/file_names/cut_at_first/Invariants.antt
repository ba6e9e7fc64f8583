use Rattle.std.proofs.Common.{◌≢◌, ℕ, ◌<◌, slice_index}
use Rattle.wtf8_uses.proofs.file_names.cut_at_first.Given as goal

-- no byte before `index` is `separator` or `other`
abbrev pub invariant-loop-index : goal.invariant-loop-index
invariant-loop-index l = (j : ℕ) → j < l.index → (slice_index l.text.bytes.now j ≢ l.separator) × (slice_index l.text.bytes.now j ≢ l.other)
