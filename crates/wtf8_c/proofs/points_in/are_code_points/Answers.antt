use Rattle.std.proofs.Common.{get_or, leb, subst, arith}
use Rattle.std.proofs.lemmas.Bool.{and_from, and_parts}
use Rattle.std.proofs.lemmas.Bool.Decides.{nat_tests}
use Rattle.std.proofs.lemmas.List.{take_all}
use Rattle.std.proofs.lemmas.List.Elements.{All-get_or, All-more}
use Rattle.std.specs.List.{All}
use Rattle.wtf8.specs.Unicode.{IsCodePoint}
use Rattle.wtf8_c.proofs.points_in.are_code_points.Goals as goal

pub loop-at-preserved : goal.loop-at-preserved
loop-at-preserved c =
    let points = c.args.points.now in
    let at = c.loop-at.at in
    let is_low = leb (get_or points at 0) 0x10FFFF in
    record {
      all = λ are.
          let both = and_parts c.loop-at.are is_low are in
          All-more IsCodePoint points at 0 c.loop-at-test.true (c.loop-at.invariant.all both.0) (grind (arith, nat_tests, both.1));
      found = λ all.
          and_from c.loop-at.are is_low (c.loop-at.invariant.found all)
          (grind (arith, nat_tests, All-get_or IsCodePoint points at 0 c.loop-at-test.true all));
    }

pub returns : goal.returns
returns c = (
  λ are. subst (λ v. All IsCodePoint v) (take_all c.loop-at.at c.args.points.now c.loop-at-test.false) (c.loop-at.invariant.all are),
  c.loop-at.invariant.found,
)
