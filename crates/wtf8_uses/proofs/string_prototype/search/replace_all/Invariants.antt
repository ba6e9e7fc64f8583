use Rattle.std.proofs.Common.{◌+◌, ◌-◌, ◌≤◌, length}
use Rattle.wtf8_uses.proofs.ReplaceLemmas.{GoesOn}
use Rattle.wtf8_uses.proofs.string_prototype.search.replace_all.Given as goal

-- `whole` and what the text becomes from `begin` on are what the text becomes
abbrev pub invariant-loop-index : goal.invariant-loop-index
invariant-loop-index g l = GoesOn l.text l.search l.other l.begin (l.begin + l.skipped) l.whole × (l.begin ≤ length l.text)

-- the next occurrence begins later
abbrev pub decreases-loop-index : goal.decreases-loop-index
decreases-loop-index g l = length l.text + 1 - (l.begin + l.skipped)
