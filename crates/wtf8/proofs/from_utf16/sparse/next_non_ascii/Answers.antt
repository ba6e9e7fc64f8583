use Rattle.wtf8.proofs.Common.{ℕ, ◌+◌, ◌-◌, ◌<◌, ◌≤◌, List, Option, None, Some, IfSome, arith, sym, subst, take, drop, take_all, length-drop, AreAscii}
use Rattle.std.specs.Option.{IfNone}
use Rattle.wtf8.proofs.lemmas.lanes.AsciiFronts.{ascii_after}
use Rattle.wtf8.proofs.from_utf16.sparse.next_non_ascii.Goals as goal

pub returns-clause-none : goal.returns-clause-none
returns-clause-none c u long mask = subst (λ w. IfNone c.first_set_lane.result (AreAscii w))
    (sym (take_all (32 - c.args.at) (drop c.args.at u) (omega (arith, long, c.requires, length-drop c.args.at u))))
    (ascii_after c.args.non_ascii c.args.at (32 - c.args.at) u _ (omega (arith, long, c.requires)) (omega (arith, c.requires)) mask
    c.first_set_lane.ensures).0

some_before : (k : ℕ) (u : List ℕ) (r : Option ℕ) → k ≤ 32 → IfSome r (λ n. (n < 32 - k) × AreAscii (take n (drop k u)))
    → IfSome r (λ n. (k + n < 32) × AreAscii (take n (drop k u)))
some_before k u None few h = tt
some_before k u (Some n) few h = (omega (arith, h.0), h.1)

pub returns-clause-some : goal.returns-clause-some
returns-clause-some c u long mask = some_before c.args.at u _ c.requires
    (ascii_after c.args.non_ascii c.args.at (32 - c.args.at) u _ (omega (arith, long, c.requires)) (omega (arith, c.requires)) mask
    c.first_set_lane.ensures).1
