use Rattle.wtf8.proofs.Common.{subst, inl, inr, arith, IsForm}
use Rattle.wtf8.proofs.lemmas.strings.Positions.{front_bytes}
use Rattle.wtf8.proofs.buffers.buf.Wtf8Buf.truncate_units.Goals as goal

pub returns-clause-bytes : goal.returns-clause-bytes
returns-clause-bytes g c k f =
    let old = c.args.self.now in
    let new = c.try_truncate_units.new.self in
    elim c.try_truncate_units.ensures.units [
      | inl x ↦ front_bytes (subst (IsForm new.bytes) x.1 new.form) old.bytes old.form k f
      | inr x ↦ absurd (let few = x.0 in omega arith)
    ]
