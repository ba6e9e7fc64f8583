-- `fill` writes the buffer into the memory, and the room owns it.
use Rattle.wtf8_c.proofs.Steps.{◌≡◌, List, [], ◌∷◌, ◌++◌, refl, sym, subst, ap, ◌∙◌, proved_at, full_share, ent, id⊢}
use Rattle.wtf8_c.proofs.Steps.{ftrue, fsep, flft, named, Val, vunit, vptr, fact, tables, ⋆, Item, ‵, raw, ◌⊛◌, ◌$◌, ◌∵◌, !, qed, by, done, move}
use Rattle.wtf8_c.proofs.Steps.{keep, drop, use2, split, join, fsplit, fsplit3, fjoin, fpack, feq_i, rewrite, suffices, frame, group, enter, of_opd, load}
use Rattle.wtf8_c.proofs.Steps.{unit_lit, stop, fld, assigns_last, first, blocks, exec, returns, alloc_all, pass_all, free_all, look_at, look_in, get}
use Rattle.wtf8_c.proofs.Steps.{through, sets, sub, whole, yes, shows, cell_at, part_at, Ptr, RawPtr, block_ptr, in_a_block, MutRef}
use Rattle.wtf8_c.proofs.Steps.{mut_Tells, plain, nothing, opens, closes, heard, peeks, Stays, walk_of, says_two, stay_dropped, Goes-dropped, stay_ref}
use Rattle.wtf8_c.proofs.Steps.{Goes-ref, ends_at, Valss, within, shape, WpFn, env, at_ret, after}
use denote.RawPtr.{room_at}
use types.Run.{init}
use Rattle.std.proofs.BoxSteps.Form.{own, R as Element}
use Rattle.std.proofs.BoxSteps.Steps.{el_in, el_tells}
use Rattle.std.specs.Prelude.{Option, Some, None}
use Rattle.wtf8_c.specs.Ownership.{Held, room_owns}
use Rattle.wtf8_c.proofs.Boxed.{E}
use Rattle.wtf8_c.specs.contracts.handle.Room.fill as f
use Rattle.wtf8_c.proofs.handle.Room.fill.Statement.{statement}
use Rattle.wtf8_c.proofs.handle.Room.fill.Code as code
use Rattle.wtf8_c.specs.contracts.handle.Room.{the_row as R, the_type}
use Rattle.wtf8_c.proofs.handle.Room.TheLaws.{lowers}

abbrev stayed : Stays f.ended.signature.params f.ended.kept
stayed = (stay_ref (0 ∷ []) tt (plain (λ _. R)), (stay_dropped (plain (λ _. Held)) yes, tt))

pub fill_spec : {M : Type 1} → statement M
fill_spec 𝓤 𝓛 𝓜 𝓡 wired =
    let c = f.clauses 𝓛 𝓜.mem 𝓡.returns in let W = walk_of 𝓛 f.ended stayed c in let 𝓣 = tables 𝓤 𝓛.H 𝓜 𝓡 𝓡.env in
    proved_at 𝓛 f.ended stayed c 𝓜 𝓡 (Goes-ref 𝓛 1 0 tt (plain (λ _. R)), (Goes-dropped 𝓛 1 (plain (λ _. Held)) yes (λ κs x w. refl), tt))
    f.Key.name code.function (code.unfolded 𝓤 𝓛.H 𝓜 𝓡 wired) (λ z are.
    let κs = z.0.0 in let qs = z.0.1 in let a = z.0.3 in let b = a.0.ref_ptr.0 in let o = a.0.ref_ptr.1 in let h = a.0.now in let x = a.1.0 in
    let same : z.0.4.0 ≡ vptr b o ∷ [] = mut_Tells (named 0) κs.0 R a.0 z.0.4.0 are.0 in
    qed 𝓛 (((‵ (flft κs.0 qs.0) ⊛ ‵ ftrue) ⊛ ‵ (fsep ((MutRef (named 0) κs.0 R).own_val a.0 z.0.4.0)
    (fsep (Held.own_val x z.0.4.1.0) ftrue))) ∷ raw (fact 𝓤 (h.buf ≡ None)) ∷ []) ∵
    move ! (1 ∷ []) $ heard ! _ (λ empty. split ! $ split ! $ move ! (2 ∷ []) $ fsplit ! $ move ! (1 ∷ []) $ fsplit ! $
    el_tells E ! x z.0.4.1.0 (λ v ev t. keep ! (0 ∷ 2 ∷ 3 ∷ []) $
    rewrite ! 1 (λ (us : List Val). ‵ ((MutRef (named 0) κs.0 R).own_val a.0 us)) same refl $
    let Γ : List (Item 𝓤) = ‵ (own E x (v ∷ [])) ∷ ‵ ((MutRef (named 0) κs.0 R).own_val a.0 (vptr b o ∷ [])) ∷ ‵ (flft κs.0 qs.0) ∷ [] in
    by ! (subst (λ (us : List Val × List Val). ent 𝓤 (⋆ 𝓛 Γ) (WpFn 𝓤 𝓛.H 𝓣.C 𝓣.Λ code.function (us.0 ++ (us.1 ++ [])) (W.post z)))
    (λ j. (sym same j, sym ev j))
    (qed 𝓛 Γ ∵ enter ! 𝓣.C 𝓣.Λ code.function (vptr b o ∷ v ∷ []) (W.post z) $
    alloc_all ! (λ l. pass_all ! refl ((tt, tt), (t, tt)) $
    move ! (1 ∷ []) $ fsplit3 ! $ move ! (1 ∷ 2 ∷ 4 ∷ []) $ opens ! tt R b o (λ us.
    move ! (1 ∷ []) $ peeks ! R _ (shows 𝓛 R) h us (λ is. fsplit ! $ move ! (1 ∷ []) $
    rewrite ! 0 (λ (m : Option Held.Denot). ‵ (room_owns h.at m)) empty refl $
    in_a_block ! h.at (room_at Held) (id⊢ 𝓤 _) (λ b' o' e.
    let at_block = lowers.val_is h us is ∙ ap (λ (p : Ptr). lowers.lowered (record h { at = p }) ∷ []) e in
    let Cell = λ (ws : List Val). ‵ (cell_at full_share R.mir ws b o) in
    rewrite ! 2 Cell at_block refl $
    -- [the room; what the fields own; the handle's cell; the open borrow, in three entries; the reference; the buffer]
    sets ! (of_opd ! (load ! (through ! refl (fld ! refl (stop !))) (look_in ! 2 (sub ! 0 refl (whole !))))) refl (tt, tt) $
    sets ! (of_opd ! (get ! refl)) refl (tt, tt) $
    first ! $ blocks ! $ sets ! (of_opd ! (get ! refl)) refl t $
    assigns_last ! (of_opd ! (get ! refl)) (through ! refl (stop !)) (init ! 0 refl t) $
    exec ! 𝓣.C 𝓣.Λ (env code.Mir.locals l) (after 3 (code.function).body) (at_ret _ (W.post z)) $
    sets ! (of_opd ! (unit_lit !)) refl (tt, tt) $
    let h' : R.Denot = record { at = block_ptr b' o'; buf = Some x } in
    let w' = lowers.lowered h' in
    move ! (0 ∷ 7 ∷ []) $ use2 𝓛 (‵ (part_at (Element E) full_share x b' o')) (el_in E 𝓛 x b' o' v) $
    move ! (1 ∷ []) $ drop ! $
    nothing ! $ feq_i ! (List Val) (vptr b' o' ∷ []) (vptr b' o' ∷ []) refl $ fjoin ! $ feq_i ! (List Val) (w' ∷ []) (w' ∷ []) refl $ fjoin ! $
    fpack ! (Valss (RawPtr ∷ [])) (within (shape the_type) (block_ptr b' o', tt) (w' ∷ [])) (vptr b' o' ∷ [], tt) $
    fjoin ! $ move ! (1 ∷ 0 ∷ []) $ closes ! tt R h' (w' ∷ []) b o $
    returns ! (look_at ! 0 refl) $ free_all ! refl $ keep ! (0 ∷ 1 ∷ 2 ∷ []) $ feq_i ! (List Val) z.0.4.0 (vptr b o ∷ []) same $
    suffices ! _ (ends_at 𝓛 f.ended stayed c z vunit tt (h', (tt, tt)) (tt, (tt, tt))) $ says_two ! (refl, sym e) $
    group ! 3 $ nothing ! $ nothing ! $ join ! $ move ! (1 ∷ 0 ∷ []) $ join ! $ nothing ! $ move ! (2 ∷ 0 ∷ []) $ join ! $
    frame ! $ frame ! $
    feq_i ! _ (vunit ∷ []) _ refl $ done !)))))))))
