use Rattle.wtf8.proofs.Common.{◌≡◌, ℕ, ◌∙◌, ◌++◌, List, [], ◌∷◌, refl, sym, ap, arith, length, drop, units, held_trail}
use Rattle.wtf8.proofs.Common.{after_held_trail, cases_Bool}
use Rattle.wtf8.proofs.lemmas.codec.Readings.{IsWellFormed-equal_bytes}
use Rattle.wtf8.proofs.strings.iters.IllFormedUtf16CodeUnits.as_wtf8.Goals.{After-split_at}
use Rattle.wtf8.proofs.strings.iters.IllFormedUtf16CodeUnits.as_wtf8.Goals as goal

-- bytes that hold no trail are all of unread code points
none_held : (w : List ℕ) → length (held_trail w) ≡ 0 → (held_trail w ≡ []) × (after_held_trail w ≡ w)
none_held [] e = (refl, refl)
none_held (a ∷ []) e = (refl, refl)
none_held (a ∷ b ∷ w) e = grind (arith, cases_Bool)

none_here : (c : After-split_at) → (held_trail (drop c.self.inside.position c.self.inside.bytes.now) ≡ [])
    × (after_held_trail (drop c.self.inside.position c.self.inside.bytes.now) ≡ drop c.self.inside.position c.self.inside.bytes.now)
none_here c = grind (arith, none_held)

pub from_well_formed-requires : goal.from_well_formed-requires
from_well_formed-requires c = IsWellFormed-equal_bytes c.self.inside.after
    (c.split_at.ensures.back ∙ sym (none_here (goal.at.from_well_formed-requires c).After-split_at).1)

pub returns-clause-points : goal.returns-clause-points
returns-clause-points c = c.from_well_formed.ensures.points (IsWellFormed-equal_bytes c.self.inside.after
    (c.split_at.ensures.back ∙ sym (none_here (goal.at.returns-clause-points c).After-split_at).1)) ∙ ap (λ u. u.points) c.self.view_is

pub returns-clause-units : goal.returns-clause-units
returns-clause-units c =
    let none = none_here (goal.at.returns-clause-units c).After-split_at in
    ap units (returns-clause-points c)
    ∙ ap (λ h. h ++ units c.args.self.now.points) (sym (ap (λ u. u.held) (sym c.self.view_is) ∙ none.0))
