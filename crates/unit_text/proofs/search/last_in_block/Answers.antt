use Rattle.std.proofs.Common.{◌≡◌, ◌+◌, ◌-◌, ◌≤◌, ◌++◌, arith, length, drop, length-drop, length-take, take}
use Rattle.wtf8.specs.View.{view_units}
use Rattle.unit_text.specs.private.Borders.{IsLongestFront}
use Rattle.unit_text.specs.private.Search.{pattern_units}
use Rattle.unit_text.proofs.BorderLemmas.{border_known, border_shorter}
use Rattle.unit_text.proofs.PartLemmas.{border_at_end, first_from_there, last_at_end, matched_before, none_from_there}
use Rattle.unit_text.proofs.SearchLemmas.{last_until}
use Rattle.unit_text.proofs.search.last_in_block.Goals as goal

pub overflow_sub-index : goal.overflow_sub-index
overflow_sub-index c =
    let i = c.loop-end.invariant in
    omega (
      arith,
      c.in-Ok.ensures.ok.0,
      matched_before c.args.block.now (view_units c.args.back) c.args.front.now (pattern_units c.args.tail) c.loop-end.from c.loop-end.matched i.within i.ends,
    )

pub returns-then-limit-index : goal.returns-then-limit-index
returns-then-limit-index c =
    let block = c.args.block.now in
    let back = view_units c.args.back in
    let front = c.args.front.now in
    let tail = pattern_units c.args.tail in
    let i = c.loop-end.invariant in
    let found = c.in-Ok.ensures.ok in
    let next = first_from_there block back front tail c.loop-end.from c.loop-end.matched i.within i.ends c.in-Ok.end found.0 found.2 in
    last_until (block ++ back) (front ++ tail) (c.loop-end.from - c.loop-end.matched) c.args.limit c.loop-end.last i.found i.below
    (λ k after under. next.no_earlier k after (omega (arith, under, c.if-limit-index.true)))

pub loop-end-preserved : goal.loop-end-preserved
loop-end-preserved c =
    let block = c.args.block.now in
    let back = view_units c.args.back in
    let front = c.args.front.now in
    let tail = pattern_units c.args.tail in
    let from = c.loop-end.from in
    let to = from + c.in-Ok.end in
    let k = to - length front in
    let b = c.from-matched.result in
    let i = c.loop-end.invariant in
    let found = c.in-Ok.ensures.ok in
    let next = first_from_there block back front tail from c.loop-end.matched i.within i.ends c.in-Ok.end found.0 found.2 in
    let before = matched_before block back front tail from c.loop-end.matched i.within i.ends in
    let within : to ≤ length block = omega (arith, i.within, found.1, length-take (length block - from) (drop from block), length-drop from block) in
    let ends : k + length front ≡ to = omega (arith, found.0, before) in
    let longest : IsLongestFront (drop 1 (take (length front) front)) front b =
    border_known front c.args.borders.now (length front) (length front) b c.requires.known c.requires.some (omega arith) c.from-matched.ensures in
    record {
      within = within;
      shorter = border_shorter front (length front) b c.requires.some longest;
      ends = border_at_end block back front tail to k b within ends next.occurs longest;
      found = last_at_end block back front tail to k b within ends next.occurs longest c.requires.some;
      below = omega (arith, c.if-limit-index.false);
    }

pub returns : goal.returns
returns c =
    let i = c.loop-end.invariant in
    let none = c.in_default.ensures.err in
    let later = none_from_there c.args.block.now (view_units c.args.back) c.args.front.now (pattern_units c.args.tail) c.loop-end.from
    c.loop-end.matched i.within i.ends c.in_default.field-0 none.3 in
    last_until (c.args.block.now ++ view_units c.args.back) (c.args.front.now ++ pattern_units c.args.tail) (c.loop-end.from - c.loop-end.matched)
    c.args.limit c.loop-end.last i.found i.below (λ k after under. later k after (omega (arith, under, none.0, c.requires.limit)))
