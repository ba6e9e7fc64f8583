use Rattle.wtf8.proofs.Common.{◌≡◌, ◌+◌, ◌++◌, take}
use Rattle.wtf8.proofs.from_utf16.on_stack.write_array.Given as goal

-- the first `k` bytes of the array are written after the bytes before index `at`
abbrev pub invariant-loop-k : goal.invariant-loop-k
invariant-loop-k g l = take (l.at + l.k) l.out ≡ take l.at l.initial.out ++ take l.k l.array
