use Rattle.wtf8.proofs.Common.{◌∙◌, List, ℕ, [], ◌∷◌, ◌++◌, drop, arith, ap, sym, refl, length-drop, units, Unread, unread_units}
use Rattle.wtf8.proofs.Common.{held_trail, unread_after}
use Rattle.wtf8.proofs.lemmas.codec.Readings.{same_points}
use Rattle.wtf8.proofs.lemmas.units.UnitCuts.{nothing_held_at_end}
use Rattle.wtf8.proofs.strings.iters.IllFormedUtf16CodeUnits.next_unit.Goals as goal

abbrev held_with : List ℕ → List ℕ → Unread
held_with held points = record { held = held; points = points }

pub returns-then-self : goal.returns-then-self
returns-then-self c =
    let s = c.self.inside in
    let none =
    nothing_held_at_end (drop s.position s.bytes.now) s.after (omega (arith, length-drop s.position s.bytes.now, c.if-self.true)) in
    let empty = sym c.self.view_is ∙ (ap (λ h. held_with h s.after.points) none.0 ∙ ap (held_with []) none.1) in
    record { first = (ap unread_units empty, ap unread_units empty); left = empty ∙ ap (λ s. unread_after s.held s.points) (sym empty) }

pub invariant_of-self-inside : goal.invariant_of-self-inside
invariant_of-self-inside c =
    let t = c.read_unit.ensures c.self.inside.after in (t.within, (t.after, tt))

pub returns : goal.returns
returns c =
    let t = c.read_unit.ensures c.self.inside.after in
    let same = same_points t.after c.self-1.given.1.0 refl in
    let held = held_trail (drop c.read_unit.new.position c.self.inside.bytes.now) in
    record {
      first = ap unread_units (sym c.self.view_is) ∙ (t.first ∙ ap (λ d. c.read_unit.result ∷ (held ++ units d)) same);
      left = ap (held_with held) (sym same) ∙ (t.left ∙ ap (λ s. unread_after s.held s.points) c.self.view_is);
    }
