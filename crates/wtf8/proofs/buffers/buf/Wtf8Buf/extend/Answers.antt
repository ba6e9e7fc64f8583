use Rattle.wtf8.proofs.Common.{arith, rules, common_steps, ◌∙◌}
use Rattle.std.specs.Iterator.{Yields}
use Rattle.wtf8.proofs.buffers.buf.Wtf8Buf.extend.Goals as goal

-- Search proves both goals too, but takes 17 seconds more to refuse a body that breaks them.

pub loop-code_point-preserved : goal.loop-code_point-preserved
loop-code_point-preserved g c = grind (arith, common_steps)

pub returns-in_err-push-clause-items : goal.returns-in_err-push-clause-items
returns-in_err-push-clause-items g c =
    let it = c.into_iter-code_point-iterator.result in
    let left : (t : _) × Yields g.I.IntoIter.Iterator.next_gives it c.loop-code_point.yielded t =
    (c.loop-code_point.code_point-iterator, c.loop-code_point.yielded_by) in
    (it, c.loop-code_point.yielded, search rules, c.in_err-push.ensures.kept.units ∙ c.loop-code_point.invariant.0, search (rules, left))
