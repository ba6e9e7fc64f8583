use Rattle.std.proofs.Common.{◌≡◌, ◌++◌, drop, take, arith}
use Rattle.wtf8_uses.proofs.ReplaceLemmas.{ends_after, goes_on_after}
use Rattle.wtf8_uses.proofs.string_prototype.search.replace_all.Goals as goal

pub loop-index-preserved : goal.loop-index-preserved
loop-index-preserved g c =
    let first = c.in-Some.ensures.some in
    let part = drop c.loop-index.begin (take c.in-Some.index c.args.text.now) in
    let joined : c.concat.new.self ≡ (c.loop-index.whole ++ part) ++ c.args.other.now = cc (c.in_ok-concat.ensures.ok, c.in_ok-append_part.ensures) in (
      goes_on_after _ _ c.loop-index.invariant.0 first c.unit_len.ensures c.gap_after-gap.ensures joined,
      omega (arith, first.occurs.within, c.unit_len.ensures),
    )

pub returns : goal.returns
returns g c = ends_after _ c.loop-index.invariant.0 c.in_default.ensures.none c.unit_len-len.ensures c.in_ok-append_part-2.ensures
