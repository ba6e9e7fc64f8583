use Rattle.std.proofs.Common.{◌≡◌, ◌-◌, ◌+◌, ◌≤◌, length, take, drop}
use Rattle.wtf8.specs.Form.{bytes}
use Rattle.wtf8.specs.View.{view_points}
use Rattle.wtf8_c.proofs.points_out.copy_one_by_one.Given as goal

-- the first `count` code points are written, nothing else is changed, and the others are left, with their bytes
abbrev pub invariant-loop-count : goal.invariant-loop-count
invariant-loop-count l = record {
  within : l.count ≤ length l.fn.out;
  some : l.count ≤ length (view_points l.fn.text);
  left : l.left ≡ drop l.count (view_points l.fn.text);
  written : take l.count l.out ≡ take l.count (view_points l.fn.text);
  rest : drop l.count l.out ≡ drop l.count l.fn.out;
  size : length l.out ≡ length l.fn.out;
  bytes : length (bytes (take l.count (view_points l.fn.text))) + length (bytes l.left) ≡ length l.fn.text.bytes.now;
}

abbrev pub decreases-loop-count : goal.decreases-loop-count
decreases-loop-count l = length l.out - l.count
