use Rattle.wtf8.proofs.Common.{arith}
use Rattle.wtf8.proofs.lemmas.from_utf16.EncodedLen.{IsCounted-all, IsCounted-most, IsCounted-next}
use Rattle.wtf8.proofs.from_utf16.encoded_len.encoded_len.Goals as goal

pub overflow_add-counted-in-loop-counted-2 : goal.overflow_add-counted-in-loop-counted-2
overflow_add-counted-in-loop-counted-2 c = record { fits = omega (arith, IsCounted-most c.loop-counted-2.invariant) }

pub overflow_add-counted-in-loop-counted-2-2 : goal.overflow_add-counted-in-loop-counted-2-2
overflow_add-counted-in-loop-counted-2-2 c = grind (arith, IsCounted-most, IsCounted-next)

pub loop-counted-2-preserved : goal.loop-counted-2-preserved
loop-counted-2-preserved c = IsCounted-next c.loop-counted-2.invariant c.loop-counted-2-test.true c.more_bytes_at.ensures

pub returns : goal.returns
returns c = IsCounted-all c.loop-counted-2.invariant (omega (arith, c.loop-counted-2-test.false))
