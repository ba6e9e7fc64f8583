use Rattle.wtf8.proofs.Common.{◌∙◌, ◌++◌, ◌+◌, ap, sym, subst, arith, length, take, drop, IsForm, view_form}
use Rattle.wtf8.specs.private.Middles.{middle_units}
use Rattle.wtf8.proofs.lemmas.codec.Readings.{same_form}
use Rattle.wtf8.proofs.lemmas.strings.Editing.{placed}
use Rattle.wtf8.proofs.strings.middle.Middle.write.Goals as goal

pub returns-in-View : goal.returns-in-View
returns-in-View c w f =
    let view = c.in-View.view in
    let own : IsForm view.bytes.now (middle_units c.args.self) = subst (λ m. IsForm view.bytes.now (middle_units m)) (sym c.in-View.is) (view_form view) in
    let same = same_form view.bytes.now w (middle_units c.args.self) own f in
    placed c.args.out.now c.copy_from_slice.new.self view.bytes.now c.args.at c.len.result c.copy_from_slice.ensures.after
    (sym c.len.ensures.bytes) (omega (arith, c.requires view.bytes.now own, c.len.ensures.bytes))
    ∙ ap (λ x. take c.args.at c.args.out.now ++ (x ++ drop (c.args.at + length x) c.args.out.now)) same
