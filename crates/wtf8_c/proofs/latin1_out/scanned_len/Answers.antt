use Rattle.std.proofs.Common.{arith}
use Rattle.wtf8.specs.View.{view_units}
use Rattle.wtf8_c.proofs.Latin1Units.{latin1_ends, latin1_on}
use Rattle.wtf8_c.proofs.latin1_out.scanned_len.Goals as goal

pub returns-then-front-n : goal.returns-then-front-n
returns-then-front-n c =
    let parts = c.next_part in
    let front = c.part_latin1_len-front in
    latin1_ends front.result.0 (view_units parts.result.0) (view_units parts.result.1) c.loop-text.invariant parts.ensures.whole
    front.ensures.front (omega (arith, c.if-front-n.true, front.ensures.count))

pub loop-text-preserved : goal.loop-text-preserved
loop-text-preserved c =
    let parts = c.next_part in
    let front = c.part_latin1_len-front in
    latin1_on front.result.0 (view_units parts.result.0) (view_units parts.result.1) c.loop-text.invariant parts.ensures.whole
    front.ensures.front (omega (arith, c.if-front-n.false, front.ensures.count))
