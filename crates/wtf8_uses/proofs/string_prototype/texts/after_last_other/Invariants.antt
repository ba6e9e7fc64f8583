use Rattle.std.proofs.Common.{ℕ, ◌<◌, ◌≤◌, length, slice_index}
use Rattle.wtf8_uses.specs.StringPrototype.{IsSpace}
use Rattle.wtf8_uses.proofs.string_prototype.texts.after_last_other.Given as goal

-- the units from `index` on are spaces
abbrev pub invariant-loop-index : goal.invariant-loop-index
invariant-loop-index g l = (k : ℕ) → l.index ≤ k → k < length l.text → IsSpace (slice_index l.text k)
