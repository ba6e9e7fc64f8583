-- Units that take the place of others, and are replaced by them again.
use Rattle.std.proofs.Common.{◌≡◌, ℕ, ◌+◌, ◌≤◌, List, ◌++◌, length, take, drop, refl, sym, ap, subst, ◌∙◌, arith, length-append, length-drop}
use Rattle.std.proofs.Common.{take-append-drop, inl, inr, Option, Some, None, IfSome, Result, Ok, Err, IsOk, OnOk}
use Rattle.std.proofs.lemmas.Bool.{false≢true}
use Rattle.std.proofs.Math.Seq.{drop-append-add, drop-append_seam, drop-drop, take-append_seam}
use Rattle.std.proofs.lemmas.List.{drop-take, length-take-le}
use Rattle.wtf8.specs.Editing.{spliced}
use Rattle.wtf8.specs.Form.{IsForm}
use Rattle.wtf8.specs.UnitString.{UnitString}
use Rattle.wtf8_uses.specs.Editor.{IsCursor}
use Rattle.wtf8_uses.specs.EditorChange.{CanUndo, IsEditor, IsShown, undone}
use Rattle.wtf8_uses.specs.declared.editor.Change.{Change}

-- the list `p ++ (i ++ q)` with `r` in place of `i`
module _ (p i r q : List ℕ) where
  spliced-parts : spliced (p ++ (i ++ q)) (length p) (length p + length i) r ≡ p ++ (r ++ q)
  spliced-parts =
      rw (take-append_seam p (i ++ q)) (rw (drop-append-add p (i ++ q) (length i)) (rw (drop-append_seam i q) refl))

  part-there : take (length i) (drop (length p) (p ++ (i ++ q))) ≡ i
  part-there = ap (take (length i)) (drop-append_seam p (i ++ q)) ∙ take-append_seam i q

-- the units that are put in place of others are within the new ones
pub spliced_within : (u v w : List ℕ) (begin end : ℕ) → begin ≤ length u → w ≡ spliced u begin end v → begin + length v ≤ length w
spliced_within u v w begin end within e =
    omega (arith, ap length e, length-append (take begin u) (v ++ drop end u), length-append v (drop end u), length-take-le begin u within)

-- `w` is `u` with `r` in place of `i`, which is there at index `b`
module _ (u i w r : List ℕ) (b : ℕ) (within : b + length i ≤ length u) (there : take (length i) (drop b u) ≡ i)
    (e : w ≡ spliced u b (b + length i) r) where
  abbrev front : List ℕ
  front = take b u

  abbrev back : List ℕ
  back = drop (b + length i) u

  at : length front ≡ b
  at = length-take-le b u (omega (arith, within))

  whole : u ≡ front ++ (i ++ back)
  whole = sym (take-append-drop b u) ∙ ap (λ z. front ++ z)
      (sym (take-append-drop (length i) (drop b u)) ∙ (ap (λ z. z ++ drop (length i) (drop b u)) there
      ∙ ap (λ z. i ++ z) (drop-drop (length i) b u)))

  new_within : b + length r ≤ length w
  new_within = spliced_within u r w b (b + length i) (omega (arith, within)) e

  new_there : take (length r) (drop b w) ≡ r
  new_there = ap (λ z. take (length r) (drop b z)) e
      ∙ (ap (λ n. take (length r) (drop n (front ++ (r ++ back)))) (sym at) ∙ part-there front r r back)

  spliced_back : spliced w b (b + length r) i ≡ u
  spliced_back = ap (λ z. spliced z b (b + length r) i) e
      ∙ (ap (λ n. spliced (front ++ (r ++ back)) n (n + length r) i) (sym at) ∙ (spliced-parts front r i back ∙ sym whole))

-- a change that was made in `old` can be undone in `new`, and that shows `old` again
module _ {A : Type 0} (old new : UnitString) (c : Change A) (within : c.begin + length c.removed.items ≤ length old.units)
    (there : take (length c.removed.items) (drop c.begin old.units) ≡ c.removed.items)
    (e : new.units ≡ spliced old.units c.begin (c.begin + length c.removed.items) c.inserted.items) where
  restored : spliced new.units c.begin (c.begin + length c.inserted.items) c.removed.items ≡ old.units
  restored = spliced_back old.units c.removed.items new.units c.inserted.items c.begin within there e

  pub undone_is : undone new.units c ≡ record { units = old.units; cursor = c.cursor }
  undone_is = ap (λ u. record { units = u; cursor = c.cursor }) restored

  pub can_undo : old.capacity ≤ new.capacity → IsShown record { units = old.units; cursor = c.cursor } → CanUndo new c
  can_undo more shown = record {
    within = new_within old.units c.removed.items new.units c.inserted.items c.begin within there e;
    inserted = new_there old.units c.removed.items new.units c.inserted.items c.begin within there e;
    shown = subst IsShown (sym undone_is) shown;
    fits = record {
      whole = old.bytes;
      form = subst (IsForm old.bytes) (sym restored) old.form;
      within = omega (arith, old.fits, more);
    };
  }

-- a change that took out the units from index `begin` to before `end`
module _ {A : Type 0} (old new : UnitString) (c : Change A) (end : ℕ) (order : c.begin ≤ end) (within : end ≤ length old.units)
    (copied : c.removed.items ≡ drop c.begin (take end old.units)) (e : new.units ≡ spliced old.units c.begin end c.inserted.items) where
  ends : c.begin + length c.removed.items ≡ end
  ends = omega (arith, order, within, ap length copied, length-drop c.begin (take end old.units), length-take-le end old.units within)

  copied_there : take (length c.removed.items) (drop c.begin old.units) ≡ c.removed.items
  copied_there = sym (drop-take c.begin (length c.removed.items) old.units)
      ∙ (ap (λ n. drop c.begin (take n old.units)) ends ∙ sym copied)

  copied_units : new.units ≡ spliced old.units c.begin (c.begin + length c.removed.items) c.inserted.items
  copied_units = e ∙ ap (λ n. spliced old.units c.begin n c.inserted.items) (sym ends)

  pub replaced_is : undone new.units c ≡ record { units = old.units; cursor = c.cursor }
  replaced_is = undone_is old new c (omega (arith, ends, within)) copied_there copied_units

  pub can_undo-replaced : old.capacity ≤ new.capacity → IsShown record { units = old.units; cursor = c.cursor } → CanUndo new c
  can_undo-replaced = can_undo old new c (omega (arith, ends, within)) copied_there copied_units

-- the same change, turned round, undoes the undoing
module _ {A : Type 0} (old new : UnitString) (c d : Change A) (h : CanUndo old c) (begin : d.begin ≡ c.begin)
    (removed : d.removed.items ≡ c.inserted.items) (inserted : d.inserted.items ≡ c.removed.items)
    (e : new.units ≡ (undone old.units c).units) where
  reversed_within : d.begin + length d.removed.items ≤ length old.units
  reversed_within = rw (begin, removed) h.within

  reversed_there : take (length d.removed.items) (drop d.begin old.units) ≡ d.removed.items
  reversed_there = rw (begin, removed) h.inserted

  reversed_units : new.units ≡ spliced old.units d.begin (d.begin + length d.removed.items) d.inserted.items
  reversed_units = rw (begin, removed, inserted) e

  pub redone_is : undone new.units d ≡ record { units = old.units; cursor = d.cursor }
  redone_is = undone_is old new d reversed_within reversed_there reversed_units

  pub can_redo : old.capacity ≤ new.capacity → IsShown record { units = old.units; cursor = d.cursor } → CanUndo new d
  can_redo = can_undo old new d reversed_within reversed_there reversed_units

-- what can be undone still can in a text that keeps its units
module _ {A : Type 0} (old new : UnitString) (e : new.units ≡ old.units) (more : old.capacity ≤ new.capacity) where
  can_undo-kept : (change : Option (Change A)) → IfSome change (CanUndo old) → IfSome change (CanUndo new)
  can_undo-kept None h = h
  can_undo-kept (Some c) h = record {
    within = subst (λ u. c.begin + length c.inserted.items ≤ length u) (sym e) h.within;
    inserted = subst (λ u. take (length c.inserted.items) (drop c.begin u) ≡ c.inserted.items) (sym e) h.inserted;
    shown = subst (λ u. IsShown (undone u c)) (sym e) h.shown;
    fits = record {
      whole = h.fits.whole;
      form = subst (λ u. IsForm h.fits.whole (undone u c).units) (sym e) h.fits.form;
      within = omega (arith, h.fits.within, more);
    };
  }

  pub IsEditor-kept : (n : ℕ) (change : Option (Change A)) → IsEditor old n change → IsEditor new n change
  IsEditor-kept n change h = record {
    shown = subst (λ u. IsShown record { units = u; cursor = n }) (sym e) h.shown;
    undo = can_undo-kept change h.undo;
  }

-- the cursor of a text of these units is within it
pub IsShown-cursor : {u : List ℕ} {n m : ℕ} → IsCursor u n m → n ≤ length u → IsShown record { units = u; cursor = m }
IsShown-cursor h within = record {
  within = elim h.rounds [ inl e ↦ omega (arith, e, within) | inr p ↦ omega (arith, p.0, within) ];
  no_pair = h.no_pair;
}

-- what is ensured of a result that is `Ok`
pub at_ok : {T E P : Type 0} (r : Result T E) → IsOk r → OnOk r P → P
at_ok (Ok x) ok p = p
at_ok (Err x) ok p = absurd (false≢true ok)

-- the units that a change took out, put back in place of `n` units
pub shown_is : {A : Type 0} (text : UnitString) (c : Change A) (n : ℕ) (r : List ℕ) → n ≡ length c.inserted.items → r ≡ c.removed.items
    → spliced text.units c.begin (c.begin + n) r ≡ (undone text.units c).units
shown_is text c n r count items =
    ap (λ k. spliced text.units c.begin (c.begin + k) r) count
    ∙ ap (λ v. spliced text.units c.begin (c.begin + length c.inserted.items) v) items
