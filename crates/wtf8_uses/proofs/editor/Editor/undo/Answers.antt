use Rattle.std.proofs.Common.{◌≡◌, ◌∙◌, IfSome, Some, ap, arith, length, subst, sym}
use Rattle.std.specs.Option.{option_map, unwrap_or}
use Rattle.wtf8.specs.Appending.{FitWithin}
use Rattle.wtf8_uses.specs.Editor.{History}
use Rattle.wtf8_uses.specs.EditorChange.{CanUndo, IsShown, undone}
use Rattle.wtf8_uses.proofs.EditorLemmas.{at_ok, can_redo, redone_is, shown_is}
use Rattle.wtf8_uses.proofs.editor.Editor.undo.Goals as goal

pub overflow_add-end : goal.overflow_add-end
overflow_add-end g c =
    let can = subst (λ o. IfSome o (CanUndo c.self.inside.text)) (sym c.take.ensures.value ∙ c.in-Some.is) c.self.invariant.undo in
    omega (arith, can.within, c.len.ensures, c.unit_len.ensures, c.unit_len.type_inv)

pub invariant_of-self-2 : goal.invariant_of-self-2
invariant_of-self-2 g c =
    let old = c.self.inside.text in
    let new = c.replace_units-shown.new.self in
    let change = c.in-Some.change in
    let can = subst (λ o. IfSome o (CanUndo old)) (sym c.take.ensures.value ∙ c.in-Some.is) c.self.invariant.undo in
    let count : c.len.result ≡ length change.inserted.items = omega (arith, c.len.ensures, change.inserted.ok.0) in
    let same = shown_is old change c.len.result c.deref.result.now count c.deref.ensures.value in
    let ok = c.replace_units-shown.ensures.room (subst (λ u. FitWithin u 0 old.capacity) (sym same) can.fits) in
    let units = at_ok c.replace_units-shown.result ok c.replace_units-shown.ensures.ok ∙ same in
    let turned = c.reversed.ensures in
    record {
      shown = subst (λ u. IsShown record { units = u; cursor = change.cursor }) (sym units) can.shown;
      undo = can_redo old new change c.reversed.result can turned.begin turned.removed turned.inserted units c.replace_units-shown.ensures.capacity
          (subst (λ n. IsShown record { units = old.units; cursor = n }) (sym turned.cursor) c.self.invariant.shown);
    }

pub returns-clause-some : goal.returns-clause-some
returns-clause-some g c other is =
    let old = c.self.inside.text in
    let new = c.replace_units-shown.new.self in
    let change = c.in-Some.change in
    let can = subst (λ o. IfSome o (CanUndo old)) (sym c.take.ensures.value ∙ c.in-Some.is) c.self.invariant.undo in
    let count : c.len.result ≡ length change.inserted.items = omega (arith, c.len.ensures, change.inserted.ok.0) in
    let same = shown_is old change c.len.result c.deref.result.now count c.deref.ensures.value in
    let ok = c.replace_units-shown.ensures.room (subst (λ u. FitWithin u 0 old.capacity) (sym same) can.fits) in
    let units = at_ok c.replace_units-shown.result ok c.replace_units-shown.ensures.ok ∙ same in
    let turned = c.reversed.ensures in
    let before = sym (ap (option_map (undone old.units)) (sym c.take.ensures.value ∙ c.in-Some.is))
    ∙ (ap (λ (h : History). h.other) c.self.view_is ∙ is) in
    let there = ap (λ u. record { units = u; cursor = change.cursor }) units ∙ ap (λ o. unwrap_or o other) before in
    let here = redone_is old new change c.reversed.result can turned.begin turned.removed turned.inserted units
    ∙ (ap (λ n. record { units = old.units; cursor = n }) turned.cursor ∙ ap (λ (h : History). h.shown) c.self.view_is) in
    (c.is_ok.ensures.value ∙ ok, λ i. record { shown = there i; other = Some (here i) })
