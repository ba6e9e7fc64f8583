use Rattle.wtf8.proofs.Common.{◌++◌, append-nil, arith, IsReadTo, subst, take}
use Rattle.wtf8.proofs.from_utf16.on_stack.write_one_by_one.Goals as goal

pub loop-read-init : goal.loop-read-init
loop-read-init c = grind (arith, append-nil)

pub loop-read-preserved : goal.loop-read-preserved
loop-read-preserved c = record {
  within = c.write_point.ensures.order.1;
  len = omega (arith, c.loop-read.invariant.len, c.write_point.ensures.end, c.write_point.ensures.order.0);
  read = λ w front read. c.write_point.ensures.read w front (c.loop-read.invariant.read w front read);
}

pub returns-clause-read : goal.returns-clause-read
returns-clause-read c w front read =
    let end = c.loop-read.read in
    subst (λ at. IsReadTo (w ++ take c.loop-read.len c.loop-read.out) front c.args.v.now at end.is_utf8)
    (omega (arith, c.loop-read-test.false, c.loop-read.invariant.within)) (c.loop-read.invariant.read w front read)
