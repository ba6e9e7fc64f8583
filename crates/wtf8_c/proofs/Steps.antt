-- The steps that the proofs by hand name.
pub use Rattle.std.proofs.Common.{◌≡◌, List, [], ◌∷◌, ◌++◌, refl, sym, ap, ◌∙◌, subst, MutBor}
pub use Rattle.std.proofs.VecSteps.Shapes.{after}
pub use Rattle.std.proofs.mem.Facts.{says_two}
pub use Rattle.std.proofs.raw_atomic.Walks.{proved, proved_at}
pub use base.Fml.{ftrue, fsep, flft}
pub use base.Fraction.{full_share}
pub use base.Logic.{id⊢, ent}
pub use contract.Monad.{fact}
pub use contract.Running.{tables}
pub use denote.Exit.{yes, no}
pub use denote.Laws.{shows}
pub use denote.Memory.{cell_at, part_at}
pub use denote.RattleType.{Valss}
pub use denote.RawPtr.{Ptr, RawPtr, block_ptr, ptr_val, in_a_block}
pub use denote.Ref.{MutRef, mut_vals, mut_Tells}
pub use denote.Signature.{plain}
pub use denote.Steps.{nothing, opens, closes, heard, peeks}
pub use denote.Struct.Owning.{shape}
pub use denote.Struct.Struct.{within}
pub use denote.Triple.Walked.{Stays, walk_of, says, stay_dropped, Goes-dropped, stay_ref, Goes-ref, ends_at}
pub use mir.Syntax.{named}
pub use mir.Val.{Val, vunit, vptr}
pub use prog.Wp.{WpFn}
pub use types.ByLocal.{alloc_all, pass_all, free_all, look_at, get, through, sets, sets_last, env}
pub use types.Kit.{‵, raw, ◌⊛◌, some, later, at_ret, ◌$◌, ◌∵◌, !, qed, by, done, move, keep, drop, use1, use2, split}
pub use types.Kit.{join, fsplit, fsplit3, fjoin, fpack, feq_i, pick, await, rewrite, suffices, frame, group}
pub use types.Kit.{⋆, Item}
pub use types.Part.{whole, sub, look_in}
pub use types.Run.{enter, of_opd, unit_lit, addr, load, stop, fld, assigns_last}
pub use types.Run.{first, blocks, exec, returns}
