use Rattle.std.proofs.Common.{◌≡◌, ℕ, ◌+◌, ◌≤◌, ◌++◌, length, take, drop}
use Rattle.wtf8_c.proofs.latin1_out.narrow.Given as goal

-- the units before `at` are written, and nothing after them is changed
abbrev pub invariant-loop-at : goal.invariant-loop-at
invariant-loop-at l = record {
  written : take (l.from + l.at) l.out ≡ take l.from l.fn.out ++ take l.at l.units;
  rest : (n : ℕ) → l.from + l.at ≤ n → drop n l.out ≡ drop n l.fn.out;
  size : length l.out ≡ length l.fn.out;
}
