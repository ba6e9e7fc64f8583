-- `buffer` lends the memory at the pointer, and the string follows it.
use Rattle.wtf8_c.proofs.Steps.{List, [], ◌∷◌, refl, sym, ap, ◌∙◌, MutBor, proved, full_share, ent, id⊢}
use Rattle.wtf8_c.proofs.Steps.{ftrue, flft, named, Val, vptr, ‵, raw, ◌⊛◌, some, later, ◌$◌, ◌∵◌, !, qed, by, done, move}
use Rattle.wtf8_c.proofs.Steps.{keep, use1, split, join, fsplit, fsplit3, fjoin, fpack, feq_i, rewrite, suffices, frame, group, await, pick, enter, of_opd, load}
use Rattle.wtf8_c.proofs.Steps.{addr, stop, fld, first, blocks, exec, returns, alloc_all, pass_all, free_all, look_at, look_in, get, through, sets, sets_last}
use Rattle.wtf8_c.proofs.Steps.{sub, whole, no, shows, cell_at, part_at, Ptr, RawPtr, ptr_val, in_a_block, MutRef, mut_vals, mut_Tells, plain}
use Rattle.wtf8_c.proofs.Steps.{nothing, opens, peeks, Stays, walk_of, says, stay_dropped, ends_at, Valss, within, shape, env, at_ret, after, tables}
use base.Logic.{sep}
use Prim.Native.Nat.{ℕ}
use base.Fml.{Fml, fsep}
use denote.Follow.{Part, lends_Part}
use denote.Memory.{mem, part_of}
use denote.Signature.{mut_ref_to}
use denote.Triple.Walked.{Goes-spent_ref}
use types.Logic.{sem}
use Rattle.wtf8_c.specs.Ownership.{Held, holds_buffer}
use Rattle.wtf8_c.specs.Lending.{with_buffer, LendsBuffer}
use Rattle.wtf8_c.specs.contracts.handle.Wtf8String.buffer as f
use Rattle.wtf8_c.proofs.handle.Wtf8String.buffer.Statement.{statement}
use Rattle.wtf8_c.proofs.handle.Wtf8String.buffer.Code as code
use Rattle.wtf8_c.specs.contracts.handle.Wtf8String.{the_row as R, the_type}
use Rattle.wtf8_c.proofs.handle.Wtf8String.TheLaws.{lowers}

abbrev stayed : Stays f.ended.signature.params f.ended.kept
stayed = (stay_dropped (mut_ref_to (0 ∷ []) tt (plain (λ _. R))) no, tt)

pub buffer_spec : {M : Type 1} → statement M
unfolding part_of
buffer_spec 𝓤 𝓛 𝓜 𝓡 wired =
    let c = f.clauses 𝓛 𝓜.mem 𝓡.returns in let W = walk_of 𝓛 f.ended stayed c in let 𝓣 = tables 𝓤 𝓛.H 𝓜 𝓡 𝓡.env in
    proved 𝓛 f.ended stayed c 𝓜 𝓡 (Goes-spent_ref 𝓛 1 (0 ∷ []) tt (plain (λ _. R)), tt)
    f.Key.name code.function (code.unfolded 𝓤 𝓛.H 𝓜 𝓡 wired)
    (λ κs. (mut_vals, tt)) (λ κs. (mut_Tells (named 0) κs.0 R, tt)) (λ κs qs bounds a _ are.
    let κ = κs.0 in let q = qs.0 in let b = a.0.ref_ptr.0 in let o = a.0.ref_ptr.1 in let h = a.0.now in let vs = mut_vals a.0 in
    let y : W.Ghost = ((κs, qs, bounds, a, (vs, tt)), tt) in
    let w' = lowers.lowered h in
    let Cell = λ (ws : List Val). ‵ (cell_at full_share R.mir ws b o) in
    let Rest : Fml = cell_at full_share R.mir (w' ∷ []) b o in
    qed 𝓛 (((‵ (flft κ q) ⊛ ‵ ftrue) ⊛ ‵ ((MutRef (named 0) κ R).own_val a.0 vs) ⊛ ‵ ftrue) ∷ ‵ ftrue ∷ []) ∵
    split ! $ split ! $ move ! (2 ∷ []) $ split ! $ keep ! (0 ∷ 2 ∷ []) $
    enter ! _ _ _ _ _ $ alloc_all ! (λ l. pass_all ! refl ((tt, tt), tt) $
    fsplit3 ! $ move ! (1 ∷ 2 ∷ 3 ∷ []) $ opens ! tt R b o (λ us.
    move ! (1 ∷ []) $ peeks ! R _ (shows 𝓛 R) h us (λ is. fsplit ! $ move ! (1 ∷ []) $
    in_a_block ! h.at (λ p. holds_buffer p h.buf) (id⊢ 𝓤 _) (λ b' o' e.
    let word = lowers.val_is h us is in
    let at_block = ap (λ (p : Ptr). lowers.lowered (record h { at = p }) ∷ []) e in
    rewrite ! 2 Cell (word ∙ at_block) refl $
    -- [the buffer in memory; what the fields own; the handle's cell; the open borrow, in three entries; the reference]
    first ! $ blocks ! $
    sets ! (of_opd ! (load ! (through ! refl (fld ! refl (stop !))) (look_in ! 2 (sub ! 0 refl (whole !))))) refl (tt, tt) $
    sets ! (of_opd ! (get ! refl)) refl (tt, tt) $
    sets_last ! (addr ! (through ! refl (stop !))) refl (tt, tt) $
    exec ! 𝓣.C 𝓣.Λ (env code.Mir.locals l) (after 1 (code.function).body) (at_ret _ (W.post y)) $
    sets ! (of_opd ! (get ! refl)) refl (tt, tt) $
    rewrite ! 2 Cell (sym at_block) refl $
    let back : (w : Held.Denot) → ent 𝓤 (sep 𝓤 (sem 𝓛 ((mem Held).own_at w b' o')) (sem 𝓛 Rest)) (sem 𝓛 ((mem R).own_at (with_buffer h w) b o)) = λ w.
    qed 𝓛 (‵ (part_at Held full_share w b' o') ∷ ‵ Rest ∷ []) ∵
    rewrite ! 0 (λ (p : Ptr). ‵ (holds_buffer p w)) (sym e) refl $
    nothing ! $ feq_i ! (List Val) (ptr_val h.at ∷ []) (ptr_val h.at ∷ []) refl $ fjoin ! $ feq_i ! (List Val) (w' ∷ []) (w' ∷ []) refl $ fjoin ! $
    fpack ! (Valss (RawPtr ∷ [])) (within (shape the_type) (h.at, tt) (w' ∷ [])) (ptr_val h.at ∷ [], tt) $ fjoin ! $
    move ! (1 ∷ 0 ∷ []) $ fjoin ! $ fpack ! (List Val) (λ us. fsep (cell_at full_share R.mir us b o) (R.own_val (with_buffer h w) us)) (w' ∷ []) $ done ! in
    move ! (3 ∷ 4 ∷ 5 ∷ 0 ∷ 2 ∷ []) $ group ! 5 $
    use1 𝓛 (later (some (λ (γ : ℕ). raw (Part 𝓛 R Held (with_buffer h) (named 0) κ q b o b' o' a.0.ghost_name (sem 𝓛 Rest) back h.buf γ))))
    (lends_Part 𝓛 R Held (with_buffer h) (named 0) κ q b o b' o' a.0.ghost_name (sem 𝓛 Rest) back (R.coded.code h) (R.coded.code h) h.buf) $ await ! tt $ pick ! (λ γ.
    returns ! (look_at ! 0 refl) $ free_all ! refl $ keep ! (0 ∷ []) $
    let lent : MutBor Held.Denot = record { ref_ptr = (b', o'); ghost_name = γ; now = h.buf } in
    by ! (qed 𝓛 (‵ ((MutRef (named 0) κ Held).own_val lent (vptr b' o' ∷ [])) ∷ ‵ (flft κ q) ∷ ‵ (LendsBuffer a.0 lent) ∷ []) ∵
    suffices ! _ (ends_at 𝓛 f.ended stayed c y (vptr b' o') lent (tt, tt) (tt, tt)) $
    nothing ! $ nothing ! $ fjoin ! $ join ! $ nothing ! $ move ! (2 ∷ 0 ∷ []) $ join ! $ join ! $ frame ! $ says ! refl $ done !)))))))
