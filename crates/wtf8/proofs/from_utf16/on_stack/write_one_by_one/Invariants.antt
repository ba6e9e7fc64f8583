use Rattle.wtf8.proofs.Common.{ℕ, List, ◌-◌, ◌*◌, ◌≤◌, ◌++◌, length, take, ReadsOn}
use Rattle.wtf8.proofs.from_utf16.on_stack.write_one_by_one.Given as goal

-- the first `len` bytes encode the units before `read.at`, at most three bytes for each
abbrev pub invariant-loop-read : goal.invariant-loop-read
invariant-loop-read l = record {
  within : l.read.at ≤ length l.v;
  len : l.len ≤ 3 * l.read.at;
  read : (w : List ℕ) → ReadsOn w (w ++ take l.len l.out) l.v 0 l.is_utf8 l.read.at l.read.is_utf8;
}

abbrev pub decreases-loop-read : goal.decreases-loop-read
decreases-loop-read l = length l.v - l.read.at
