use Rattle.std.proofs.Common.{◌≡◌, ℕ, ◌≤◌, length, take, drop}
use Rattle.wtf8.specs.View.{view_units}
use Rattle.wtf8_c.proofs.latin1_out.write_latin1.Given as goal

-- the first `count` units are written, nothing after them is changed, and the others are left
abbrev pub invariant-loop-left : goal.invariant-loop-left
invariant-loop-left l = record {
  within : l.count ≤ length (view_units l.fn.text);
  left : view_units l.left ≡ drop l.count (view_units l.fn.text);
  written : take l.count l.out ≡ take l.count (view_units l.fn.text);
  rest : (n : ℕ) → l.count ≤ n → drop n l.out ≡ drop n l.fn.out;
  size : length l.out ≡ length l.fn.out;
}

abbrev pub decreases-loop-left : goal.decreases-loop-left
decreases-loop-left l = length l.left.bytes.now
