use Rattle.std.proofs.Common.{◌<◌, get_or, leb, arith}
use Rattle.std.proofs.lemmas.Bool.{or_parts}
use Rattle.std.proofs.lemmas.Bool.Decides.{nat_tests}
use Rattle.std.proofs.lemmas.List.Elements.{All-more}
use Rattle.wtf8_c.proofs.points_in.has_pair.Goals as goal

pub loop-at-preserved : goal.loop-at-preserved
loop-at-preserved c none =
    let points = c.args.points.now in
    let neither = or_parts c.loop-at.found (leb 0x10000 (get_or points c.loop-at.at 0)) none in
    All-more (λ p. p < 0x10000) points c.loop-at.at 0 c.loop-at-test.true (c.loop-at.invariant neither.0) (grind (arith, nat_tests, neither.1))
