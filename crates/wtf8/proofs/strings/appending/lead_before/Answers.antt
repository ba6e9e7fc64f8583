use Rattle.wtf8.proofs.Common.{◌≡◌, ◌∷◌, [], ◌++◌, ◌∙◌, List, ℕ, IfSome, subst, sym}
use Rattle.wtf8.proofs.lemmas.codec.Readings.{same_points}
use Rattle.wtf8.proofs.lemmas.strings.PushedUnits.{lead_before_units}
use Rattle.wtf8.proofs.lemmas.strings.ExtendedForms.{scalar_front_unpaired}
use Rattle.wtf8.proofs.strings.appending.lead_before.Goals as goal

pub returns-then-is_utf8-clause-none : goal.returns-then-is_utf8-clause-none
returns-then-is_utf8-clause-none g c h = scalar_front_unpaired (c.requires.scalar h c.if-is_utf8.true)

pub returns-in-Some-clause-last : goal.returns-in-Some-clause-last
returns-in-Some-clause-last g c h =
    let view = c.from_well_formed-view in
    let same = same_points view.result.well_formed h (view.ensures.bytes ∙ c.as_slice.ensures.value) in
    subst (λ p. IfSome c.lead_at_end.result (λ l. (f : List ℕ) × (p ≡ f ++ l ∷ []))) same c.lead_at_end.ensures.last

pub returns-in-Some-clause-none : goal.returns-in-Some-clause-none
returns-in-Some-clause-none g c h =
    let view = c.from_well_formed-view in
    let same = same_points h view.result.well_formed (sym (view.ensures.bytes ∙ c.as_slice.ensures.value)) in
    lead_before_units c.lead_at_end.result c.args.v.now h same c.lead_at_end.ensures.none
