use Rattle.wtf8.proofs.Common.{◌≡◌, ◌+◌, ◌≤◌, ◌<◌, ◌∙◌, sym, length, ap, drop, get_or, arith, get_or-drop}
use Rattle.wtf8.proofs.lemmas.units.UnitCuts.{continuation_range, held_trail-two_bytes, held_trail-some}
use Rattle.wtf8.proofs.strings.iters.IllFormedUtf16CodeUnits.held_units.Goals as goal

pub returns-in-Some-128-to-191-clause-value : goal.returns-in-Some-128-to-191-clause-value
returns-in-Some-128-to-191-clause-value c =
    let s = c.self.inside in
    let seen = c.in-Some-128-to-191 in
    let none_on : s.position + 0 ≡ s.position = omega arith in
    let first = get_or-drop s.position s.bytes.now 0 0 ∙ ap (λ k. get_or s.bytes.now k 0) none_on in
    let least : 0x80 ≤ get_or (drop s.position s.bytes.now) 0 0 = grind (arith, first, seen, seen.ensures.lookup) in
    let most : get_or (drop s.position s.bytes.now) 0 0 < 0xC0 = grind (arith, first, seen, seen.ensures.lookup) in
    let two = held_trail-two_bytes (drop s.position s.bytes.now) s.after least most in
    let held = held_trail-some (drop s.position s.bytes.now) two (continuation_range _ least most) in
    sym (ap (λ u. length u.held) (sym c.self.view_is) ∙ ap length held.0)
