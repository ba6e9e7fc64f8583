use Rattle.wtf8.proofs.Common.{◌-◌, length, IsWellFormed}
use Rattle.wtf8.proofs.lemmas.strings.Surrogates.{Replacing}
use Rattle.wtf8.proofs.strings.lossy.replace_surrogates.Given as goal

-- of the original bytes, the surrogates before `from` are replaced
abbrev pub invariant-loop-found : goal.invariant-loop-found
invariant-loop-found l = (h : IsWellFormed l.fn.bytes) → Replacing h.points l.bytes l.from

abbrev pub decreases-loop-found : goal.decreases-loop-found
decreases-loop-found l = length l.bytes - l.from
