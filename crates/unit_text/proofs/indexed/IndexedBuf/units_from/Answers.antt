use Rattle.std.proofs.Common.{◌≡◌, ◌+◌, ◌∙◌, ap, arith, drop, inl, inr, length, length-drop, take}
use Rattle.std.proofs.lemmas.List.{drop-drop}
use Rattle.wtf8.proofs.lemmas.codec.Readings.{meets_or_not}
use Rattle.wtf8.specs.Units.{unread_units}
use Rattle.wtf8.specs.View.{view_units}
use Rattle.unit_text.proofs.UnitLemmas.{after_first}
use Rattle.unit_text.proofs.indexed.IndexedBuf.units_from.Goals as goal

pub returns-then-mark-begin-clause-units : goal.returns-then-mark-begin-clause-units
returns-then-mark-begin-clause-units g c =
    let units = c.args.self.now.units in
    let mark = c.mark_at-mark.result.units in
    let begun = unread_units c.to_ill_formed_utf16-units.result in
    let left = c.to_ill_formed_utf16-units.ensures.units ∙ c.slice_from_mark.ensures.units ∙ ap (drop mark) c.marked-marked.ensures.units in
    let own = view_units c.marked-marked.result.text.view in
    let one : mark + 1 ≡ c.args.begin = elim (meets_or_not (take c.args.begin own) (drop c.args.begin own)) [
      | inl m ↦ c.mark_at-mark.ensures.divided m
      | inr n ↦ absurd (omega (arith, c.mark_at-mark.ensures.whole n, c.if-mark-begin.true))
    ] in
    after_first c.next.result begun (unread_units c.next.new.self) (omega (arith, ap length left, length-drop mark units, one, c.requires))
    c.next.ensures.steps ∙ ap (drop 1) left ∙ drop-drop 1 mark units ∙ ap (λ n. drop n units) one
