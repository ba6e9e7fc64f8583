use Rattle.wtf8.proofs.Common.{◌∙◌, ap, length, subst, IsForm, view_form, view_units}
use Rattle.wtf8.specs.private.Middles.{middle_units}
use Rattle.wtf8.proofs.lemmas.codec.Readings.{same_form}
use Rattle.wtf8.proofs.strings.middle.Middle.encoded_len.Goals as goal

pub returns-in-View-clause-len : goal.returns-in-View-clause-len
returns-in-View-clause-len c w f =
    let view = c.in-View.view in
    let form = subst (λ m. IsForm w (middle_units m)) c.in-View.is f in
    c.len.ensures.bytes ∙ ap length (same_form view.bytes.now w (view_units view) (view_form view) form)
