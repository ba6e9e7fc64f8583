use Rattle.std.proofs.Common.{◌≤◌, get_or, ltb, arith}
use Rattle.std.proofs.lemmas.Bool.{or_parts}
use Rattle.std.proofs.lemmas.Bool.Decides.{nat_tests}
use Rattle.std.proofs.lemmas.List.Elements.{All-more}
use Rattle.wtf8_c.proofs.latin1_out.has_high.Goals as goal

pub loop-at-preserved : goal.loop-at-preserved
loop-at-preserved c none =
    let units = c.args.units.now in
    let neither = or_parts c.loop-at.found (ltb 0xFF (get_or units c.loop-at.at 0)) none in
    All-more (λ n. n ≤ 0xFF) units c.loop-at.at 0 c.loop-at-test.true (c.loop-at.invariant neither.0) (grind (arith, nat_tests, neither.1))
