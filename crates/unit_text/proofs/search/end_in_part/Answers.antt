use Rattle.std.proofs.Common.{◌≡◌, ◌∙◌, get_or, ◌+◌, ◌-◌, ◌<◌, ◌≤◌, ◌++◌, ap, sym, subst, arith, length, length-take-le, take, drop}
use Rattle.std.proofs.lemmas.Bool.{false≢true}
use Rattle.wtf8.specs.View.{view_units}
use Rattle.unit_text.specs.private.Search.{pattern_units}
use Rattle.unit_text.proofs.BorderLemmas.{border_known, border_shorter}
use Rattle.unit_text.proofs.PartLemmas.{IsReached, found_in_part, none_in_part, not_followed, reached_after, reached_first, reached_later, reached_len}
use Rattle.unit_text.proofs.search.end_in_part.Goals.{After-extended-reached, then-reached-front+else-begins, else-reached-front}
use Rattle.unit_text.proofs.search.end_in_part.Goals as goal

pub loop-index-init : goal.loop-index-init
loop-index-init c = record {
  within = omega arith;
  shorter = c.requires.matched;
  reached = reached_first c.args.part.now (view_units c.args.back) c.args.front.now (pattern_units c.args.tail) c.args.matched
      (omega (arith, c.requires.matched));
}

-- what is reached after the unit
next : (c : After-extended-reached) → IsReached (take c.args.matched c.args.front.now ++ take (c.loop-index.index + 1) c.args.part.now)
    (drop (c.loop-index.index + 1) c.args.part.now ++ view_units c.args.back) c.args.front.now (pattern_units c.args.tail) c.extended-reached.result
next c =
    let front = c.args.front.now in
    reached_after (take c.args.matched front) c.args.part.now (view_units c.args.back) front (pattern_units c.args.tail) c.loop-index.index
    c.loop-index.reached c.extended-reached.result (omega arith) c.loop-index.invariant.shorter c.loop-index.invariant.reached
    c.extended-reached.ensures

pub returns-then-begins-clause-ok : goal.returns-then-begins-clause-ok
returns-then-begins-clause-ok c =
    let front = c.args.front.now in
    let part = c.args.part.now in
    let back = view_units c.args.back in
    let tail = pattern_units c.args.tail in
    let i = c.loop-index.index + 1 in
    let count = length-take-le c.args.matched front (omega (arith, c.requires.matched)) in
    let within : i ≤ length part = omega arith in
    let whole = subst (IsReached (take c.args.matched front ++ take i part) (drop i part ++ back) front tail) c.if-reached-front.true
    (next (goal.at.returns-then-begins-clause-ok c).After-extended-reached) in
    let follows : take (length tail) (drop i part ++ back) ≡ tail =
    subst (λ l. take (length tail) (l ++ back) ≡ tail) c.split_at.ensures.back (c.begins.ensures.0 c.if-begins.true) in (
      omega (arith, count, reached_len (take c.args.matched front) part back front tail i (length front) within whole),
      within,
      found_in_part (take c.args.matched front) part back front tail i (c.args.matched + i - length front) within (omega (arith, count))
          whole follows,
    )

pub loop-index-preserved : goal.loop-index-preserved
loop-index-preserved c =
    let front = c.args.front.now in
    let part = c.args.part.now in
    let back = view_units c.args.back in
    let tail = pattern_units c.args.tail in
    let i = c.loop-index.index + 1 in
    let reached = next (goal.at.loop-index-preserved c).After-extended-reached in
    let before = take c.args.matched front in
    let seen = before ++ take i part in
    let later = drop i part ++ back in
    let some : 0 < length front = omega (arith, c.requires.matched) in
    let start = c.next_start-index.ensures in
    let from = reached_later before part back front tail i c.next_start-index.result c.if-reached-front.reached some start.after start.within
    start.kept start.passed in
    elim c.if-reached-front.branch [
      | then-reached-front+else-begins w ↦
          let n = length front in
          let whole = subst (IsReached seen later front tail) w.if-reached-front.true reached in
          let apart : ¬ (take (length tail) later ≡ tail) =
          λ b. false≢true (sym w.if-begins.false ∙ w.begins.ensures.1
          (subst (λ l. take (length tail) (l ++ back) ≡ tail) (sym w.split_at.ensures.back) b)) in
          let longest = border_known front c.args.borders.now n n w.from-reached.result c.requires.known some (omega arith)
          (w.from-reached.ensures ∙ ap (λ r. get_or c.args.borders.now (r - 1) 0) w.if-reached-front.true) in
          record {
            within = start.within;
            shorter = omega (arith, w.reached-is, border_shorter front n w.from-reached.result some longest);
            reached = from (subst (IsReached seen later front tail) (sym w.reached-is)
                (not_followed seen later front tail w.from-reached.result whole apart longest));
          }
      | else-reached-front w ↦ record {
        within = start.within;
        shorter = omega (arith, w.reached-is, w.if-reached-front.false, c.extended-reached.ensures.is_end.within);
        reached = from (subst (IsReached seen later front tail) (sym w.reached-is) reached);
      }
    ]

pub returns-clause-err : goal.returns-clause-err
returns-clause-err c =
    let front = c.args.front.now in
    let part = c.args.part.now in
    let back = view_units c.args.back in
    let tail = pattern_units c.args.tail in
    let i = c.loop-index.index in
    let count = length-take-le c.args.matched front (omega (arith, c.requires.matched)) in
    let end : i ≡ length part = omega arith in
    let none = none_in_part (take c.args.matched front) part back front tail i c.loop-index.reached end c.loop-index.invariant.reached in (
      c.loop-index.invariant.shorter,
      omega (arith, count, end, reached_len (take c.args.matched front) part back front tail i c.loop-index.reached (omega (arith, end)) c.loop-index.invariant.reached),
      none.0,
      λ k below. none.1 k (omega (arith, below, count)),
    )
