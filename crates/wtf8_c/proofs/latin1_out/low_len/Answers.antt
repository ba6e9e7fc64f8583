use Rattle.std.proofs.Common.{◌≤◌, arith}
use Rattle.std.proofs.lemmas.List.Elements.{All-more}
use Rattle.wtf8_c.proofs.latin1_out.low_len.Goals as goal

pub loop-at-preserved : goal.loop-at-preserved
loop-at-preserved c =
    All-more (λ n. n ≤ 0xFF) c.args.units.now c.loop-at.at 0 c.loop-at-test.true c.loop-at.invariant (omega (arith, c.if-units-at-gt255.false))
