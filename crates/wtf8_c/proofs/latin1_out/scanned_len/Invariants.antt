use Rattle.std.proofs.Common.{length}
use Rattle.wtf8.specs.View.{view_units}
use Rattle.wtf8_c.proofs.Latin1Units.{AreLatin1To}
use Rattle.wtf8_c.proofs.latin1_out.scanned_len.Given as goal

-- the first `count` units are of Latin-1, and the others are left
abbrev pub invariant-loop-text : goal.invariant-loop-text
invariant-loop-text l = AreLatin1To (view_units l.fn.text) l.count (view_units l.left)

abbrev pub decreases-loop-text : goal.decreases-loop-text
decreases-loop-text l = length l.left.bytes.now
