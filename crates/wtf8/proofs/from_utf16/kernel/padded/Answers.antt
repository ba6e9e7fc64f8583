use Rattle.wtf8.proofs.Common.{arith}
use Rattle.wtf8.proofs.lemmas.from_utf16.Padded.{few_left, many_left}
use Rattle.wtf8.proofs.from_utf16.kernel.padded.Goals as goal

pub returns-then-left-lt-HALF_BLOCK : goal.returns-then-left-lt-HALF_BLOCK
returns-then-left-lt-HALF_BLOCK c = rw c.without_first.ensures (few_left c.args.v.now c.args.at (omega (arith, c.if-v-lt-HALF_BLOCK.false))
    (omega (arith, c.requires.least)) c.if-left-lt-HALF_BLOCK.true)

pub returns : goal.returns
returns c = rw c.without_first-rest.ensures (many_left c.args.v.now c.args.at (omega (arith, c.if-v-lt-HALF_BLOCK.false))
    (omega (arith, c.requires.least)) (omega (arith, c.if-left-lt-HALF_BLOCK.false)) c.requires.most)
