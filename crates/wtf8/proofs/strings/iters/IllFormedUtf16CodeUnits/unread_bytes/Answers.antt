use Rattle.wtf8.proofs.Common.{◌≡◌, ℕ, ◌+◌, ◌*◌, List, [], ◌∷◌, length, ap, drop, arith, length-drop, cases_Bool, bytes}
use Rattle.wtf8.proofs.Common.{IsWellFormed, held_trail, after_held_trail}
use Rattle.wtf8.proofs.lemmas.codec.Readings.{lists_have_lengths}
use Rattle.wtf8.proofs.strings.iters.IllFormedUtf16CodeUnits.unread_bytes.Goals as goal

-- a held trail takes two bytes, before the bytes of the unread code points
length-held : (w : List ℕ) (h : IsWellFormed (after_held_trail w)) → length w ≡ 2 * length (held_trail w) + length (bytes h.points)
length-held [] h = omega (arith, ap length h.encoded)
length-held (a ∷ []) h = omega (arith, ap length h.encoded)
length-held (a ∷ b ∷ w) h = grind (arith, cases_Bool, ap length h.encoded)

pub overflow_sub-result-2 : goal.overflow_sub-result-2
overflow_sub-result-2 c =
    let s = c.self.inside in
    let held = ap (λ u. length u.held) c.self.view_is in
    omega (arith, held, c.held_units.ensures.value, length-held (drop s.position s.bytes.now) s.after, length-drop s.position s.bytes.now)

pub returns-clause-value : goal.returns-clause-value
returns-clause-value c =
    let s = c.self.inside in
    let held = ap (λ u. length u.held) c.self.view_is in
    let points = ap (λ u. length (bytes u.points)) c.self.view_is in
    omega
    (arith, held, points, c.held_units.ensures.value, length-held (drop s.position s.bytes.now) s.after, length-drop s.position s.bytes.now)

pub returns-clause-at_least_units : goal.returns-clause-at_least_units
returns-clause-at_least_units c = let b = lists_have_lengths c.args.self.now.points in omega (arith, b.units_least, returns-clause-value c)

pub returns-clause-at_most_three_times : goal.returns-clause-at_most_three_times
returns-clause-at_most_three_times c =
    let b = lists_have_lengths c.args.self.now.points in
    omega (arith, b.units_most, returns-clause-value c)
