-- What the proofs of `allocate` and `deallocate` say of the allocator itself.
use Rattle.std.proofs.Common.{[], ◌∷◌}
use mir.Syntax.{Args, a_type, dnil, dcons}
use denote.Builtin.{RefOf}
use denote.Param.{bounded, param}
use denote.Signature.{Slot, plain}
use Rattle.std.proofs.alloc.Calls.{Al}
use Rattle.refusing.specs.contracts.Refusing as wrapper

-- the type arguments of a call: the ones of the inner allocator
abbrev pub args : Al → Args
args Z = bounded (a_type ∷ []) (Z.row, tt) (dcons Z.d (dcons Z.drops dnil))

-- how a `&` to the allocator is passed
abbrev pub self : Al → Slot 2
self Z = RefOf (0 ∷ []) tt (plain (λ _. wrapper.the_row (param 0 Z.row))) (λ _. tt)
