use Rattle.std.proofs.Common.{◌≡◌, ◌∙◌, ◌+◌, ◌-◌, ◌++◌, ap, subst, arith, append_assoc, length, take, drop, length-append, length-take-le}
use Rattle.wtf8.specs.View.{view_units}
use Rattle.unit_text.specs.Search.{IsFirstIndex}
use Rattle.unit_text.specs.private.Search.{pattern_units}
use Rattle.unit_text.proofs.PartLemmas.{left_after}
use Rattle.unit_text.proofs.SearchLemmas.{NoneBelow, first_in_whole, none_in_whole}
use Rattle.unit_text.proofs.search.first_by_parts.Goals.{After-decode_part-count}
use Rattle.unit_text.proofs.search.first_by_parts.Goals as goal

-- the part, the units that were matched before it, and the units after it
whole : (g : _) (c : After-decode_part-count g) → (take c.loop-matched.matched c.divide.result.0.now
    ++ take c.decode_part-count.result.0 c.decode_part-count.new.block) ++ view_units c.decode_part-count.result.1
    ≡ drop c.loop-matched.begin (view_units c.args.view)
whole g c =
    let first = take c.loop-matched.matched c.divide.result.0.now in
    append_assoc first (take c.decode_part-count.result.0 c.decode_part-count.new.block) (view_units c.decode_part-count.result.1)
    ∙ ap (λ t. first ++ t) c.decode_part-count.ensures.units ∙ c.loop-matched.invariant.left

pub returns-in-Ok : goal.returns-in-Ok
returns-in-Ok g c =
    let i = c.loop-matched.invariant in
    let n = c.loop-matched.matched + c.in-Ok.end - length c.divide.result.0.now in
    let pattern = pattern_units c.args.pattern in
    let found = subst (λ p. IsFirstIndex (drop c.loop-matched.begin (view_units c.args.view)) p 0 n)
    c.divide.ensures.units
    (rw (whole g (goal.at.returns-in-Ok g c).After-decode_part-count) at c.in-Ok.ensures.ok.2) in
    first_in_whole (view_units c.args.view) pattern c.loop-matched.begin i.within n found i.none

pub loop-matched-preserved : goal.loop-matched-preserved
loop-matched-preserved g c =
    let part = c.decode_part-count in
    let i = c.loop-matched.invariant in
    let u = view_units c.args.view in
    let front = c.divide.result.0.now in
    let seen = take c.loop-matched.matched front ++ take part.result.0 part.new.block in
    let all = whole g (goal.at.loop-matched-preserved g c).After-decode_part-count in
    let n = c.loop-matched.matched + part.result.0 in
    let own = length-take-le part.result.0 part.new.block part.ensures.within in
    let count : n ≡ length seen = omega (
      arith,
      own,
      length-append (take c.loop-matched.matched front) (take part.result.0 part.new.block),
      length-take-le c.loop-matched.matched front (omega (arith, i.shorter)),
    ) in
    let left = left_after seen front (view_units part.result.1) u c.loop-matched.begin c.in-Err.left n count c.in-Err.ensures.err.2 all i.within in
    let none : NoneBelow (drop c.loop-matched.begin u) (pattern_units c.args.pattern) (n - c.in-Err.left) =
    subst (λ p. NoneBelow (drop c.loop-matched.begin u) p (n - c.in-Err.left)) c.divide.ensures.units
    (λ k below. rw all at (c.in-Err.ensures.err.3 k (omega (arith, below, own)))) in
    record {
      block = omega (arith, part.auto.block, i.block);
      shorter = c.in-Err.ensures.err.0;
      within = left.1;
      left = left.0;
      none = none_in_whole u (pattern_units c.args.pattern) c.loop-matched.begin i.within (n - c.in-Err.left) none i.none;
    }
