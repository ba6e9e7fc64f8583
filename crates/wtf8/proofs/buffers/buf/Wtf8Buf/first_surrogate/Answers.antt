use Rattle.wtf8.proofs.Common.{UnitString, ap, subst, ◌∙◌, IsFirst, SurrogateAt, arith}
use Rattle.wtf8.proofs.lemmas.strings.ExtendedForms.{none_before}
use Rattle.wtf8.proofs.lemmas.strings.Surrogates.{first_further, none_from_scalar}
use Rattle.wtf8.proofs.buffers.buf.Wtf8Buf.first_surrogate.Goals as goal

pub returns-then-is_utf8 : goal.returns-then-is_utf8
returns-then-is_utf8 g c i _ = grind (arith, none_from_scalar, c.is_utf8.ensures, c.if-is_utf8.true)

pub returns : goal.returns
returns g c =
    let own = c.self.inside in
    let same = c.deref.ensures.value in
    subst (λ w. IsFirst (SurrogateAt w) 0 c.next_surrogate.result) (same ∙ ap (λ (t : UnitString). t.bytes) c.self.view_is)
    (first_further (SurrogateAt c.deref.result.now) own.utf8_prefix.len c.next_surrogate.result (λ i l at. none_before own.utf8_prefix.len
    own.well_formed i own.scalar_prefix l (subst (λ w. SurrogateAt w i) same at)) c.next_surrogate.ensures)
