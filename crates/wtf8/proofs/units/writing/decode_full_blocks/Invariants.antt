use Rattle.wtf8.proofs.Common.{◌≡◌, ◌+◌, ◌-◌, ◌≤◌, drop, length}
use Rattle.wtf8.specs.private.UnitsOut.{Decodes}
use Rattle.wtf8.proofs.units.writing.decode_full_blocks.Given as goal

-- the units written so far, followed by the units of the bytes left, which are the last ones, are all units
abbrev pub invariant-loop-block : goal.invariant-loop-block
invariant-loop-block g l = record {
  written : Decodes l.fn.units l.left l.units l.rest;
  within : length l.rest.view.bytes.now ≤ length l.left.view.bytes.now;
  back : l.rest.view.bytes.now ≡ drop (length l.left.view.bytes.now - length l.rest.view.bytes.now) l.left.view.bytes.now;
  kept : l.least ≤ length l.rest.view.bytes.now + 32;
}

abbrev pub decreases-loop-block : goal.decreases-loop-block
decreases-loop-block g l = length l.rest.view.bytes.now
