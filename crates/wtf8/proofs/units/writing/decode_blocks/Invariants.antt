use Rattle.wtf8.proofs.Common.{◌≡◌, ℕ, ◌+◌, ◌≤◌, drop, length, view_units, Writes}
use Rattle.wtf8.proofs.units.writing.decode_blocks.Given as goal

-- the units written so far, followed by the units of the bytes left, are all units, and none after them is overwritten
abbrev pub invariant-loop-units : goal.invariant-loop-units
invariant-loop-units l = record {
  written : Writes l.fn.units l.from (view_units l.view) l.units l.left.at (view_units l.left.view);
  kept : 128 ≤ l.least → (n : ℕ) → l.from + length (view_units l.view) ≤ n → drop n l.units ≡ drop n l.fn.units;
}

abbrev pub decreases-loop-units : goal.decreases-loop-units
decreases-loop-units l = length l.left.view.bytes.now
