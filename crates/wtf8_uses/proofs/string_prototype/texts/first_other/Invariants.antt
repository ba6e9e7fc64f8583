use Rattle.std.proofs.Common.{ℕ, ◌<◌, slice_index}
use Rattle.wtf8_uses.specs.StringPrototype.{IsSpace}
use Rattle.wtf8_uses.proofs.string_prototype.texts.first_other.Given as goal

-- the units before `index` are spaces
abbrev pub invariant-loop-index : goal.invariant-loop-index
invariant-loop-index g l = (k : ℕ) → k < l.index → IsSpace (slice_index l.text k)
