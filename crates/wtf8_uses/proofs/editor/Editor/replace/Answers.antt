use Rattle.std.proofs.Common.{◌∙◌, Some, ap, arith, length, sym}
use Rattle.wtf8.specs.Editing.{spliced}
use Rattle.wtf8_uses.specs.Editor.{History}
use Rattle.wtf8_uses.specs.declared.editor.Change.{Change}
use Rattle.wtf8_uses.proofs.EditorLemmas.{IsEditor-kept, IsShown-cursor, can_undo-replaced, replaced_is, spliced_within}
use Rattle.wtf8_uses.proofs.editor.Editor.replace.Goals as goal

pub invariant_of-self : goal.invariant_of-self
invariant_of-self g c =
    let kept = c.in_err-replace_units.ensures.kept in
    IsEditor-kept c.self.inside.text c.replace_units.new.self kept.units c.in_err-replace_units.ensures.capacity c.self.inside.cursor
    c.self.inside.change c.self.invariant

pub overflow_add-begin : goal.overflow_add-begin
overflow_add-begin g c =
    let len = ap (λ (h : History). length h.shown.units) c.self.view_is in
    let within = spliced_within c.self.inside.text.units c.args.units.now c.replace_units.new.self.units c.args.begin c.args.end
    (omega (arith, len, c.requires.order, c.requires.within)) c.in_ok-replace_units.ensures.ok in
    omega (arith, within, c.unit_len.ensures, c.unit_len.type_inv)

pub invariant_of-self-2 : goal.invariant_of-self-2
invariant_of-self-2 g c =
    let old = c.self.inside.text in
    let new = c.replace_units.new.self in
    let len = ap (λ (h : History). length h.shown.units) c.self.view_is in
    let done = c.in_ok-replace_units.ensures in
    let within = spliced_within old.units c.args.units.now new.units c.args.begin c.args.end
    (omega (arith, len, c.requires.order, c.requires.within)) done.ok in
    let units = done.ok ∙ ap (λ v. spliced old.units c.args.begin c.args.end v) (sym c.in_ok-inserted.ensures.items) in
    record {
      shown = IsShown-cursor c.round_down-self-inside.ensures within;
      undo = can_undo-replaced old new _ c.args.end c.requires.order (omega (arith, len, c.requires.within)) c.in_ok-removed.ensures units done.capacity c.self.invariant.shown;
    }

pub returns-clause-ok : goal.returns-clause-ok
returns-clause-ok g c =
    let old = c.self.inside.text in
    let new = c.replace_units.new.self in
    let len = ap (λ (h : History). length h.shown.units) c.self.view_is in
    let done = c.in_ok-replace_units.ensures in
    let units = done.ok ∙ ap (λ v. spliced old.units c.args.begin c.args.end v) (sym c.in_ok-inserted.ensures.items) in
    let change : Change g.row.A.Denot =
    record { begin = c.args.begin; removed = c.in_ok-removed.removed; inserted = c.in_ok-inserted.inserted; cursor = c.self.inside.cursor } in
    record {
      units = done.ok ∙ ap (λ (h : History). spliced h.shown.units c.args.begin c.args.end c.args.units.now) c.self.view_is;
      cursor = c.round_down-self-inside.ensures;
      other = ap Some (replaced_is {A = g.row.A.Denot} old new change c.args.end c.requires.order (omega (arith, len, c.requires.within)) c.in_ok-removed.ensures units ∙ ap (λ (h : History). h.shown) c.self.view_is);
    }
