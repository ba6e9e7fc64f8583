use Rattle.wtf8.proofs.Common.{arith}
use Rattle.wtf8.proofs.lemmas.lanes.Mismatch.{pointwise-from_no_mismatch}
use Rattle.wtf8.proofs.lanes.memcmp.eq.Goals as goal

pub returns-then-own-le-VECTOR : goal.returns-then-own-le-VECTOR
returns-then-own-le-VECTOR c = pointwise-from_no_mismatch _ c.args.own.now c.args.others.now (omega arith) c.eq_up_to_vector.ensures

pub returns-then-own-le-BLOCK : goal.returns-then-own-le-BLOCK
returns-then-own-le-BLOCK c = pointwise-from_no_mismatch _ c.args.own.now c.args.others.now (omega arith) c.eq_up_to_block.ensures

pub returns : goal.returns
returns c = pointwise-from_no_mismatch _ c.args.own.now c.args.others.now (omega arith) c.eq_over_block.ensures
