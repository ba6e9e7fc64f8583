use Rattle.wtf8.proofs.Common.{◌≡◌, ◌++◌, ◌∷◌, [], ◌∙◌, List, ℕ, sym, IsLead, IsTrail}
use Rattle.wtf8.proofs.lemmas.strings.ExtendedForms.{CompletedPair, CompletedPair-from_lead}
use Rattle.wtf8.proofs.lemmas.codec.Readings.{same_points}
use Rattle.wtf8.proofs.strings.appending.push_trail.Goals.{After-from_well_formed-view}
use Rattle.wtf8.proofs.strings.appending.push_trail.Goals as goal

-- the trail completes the lead that ends the view of the bytes
joined_here : (g : _) (c : After-from_well_formed-view g) (l t : ℕ) → IsLead l → IsTrail t
    → (f : List ℕ) × (c.from_well_formed-view.result.well_formed.points ≡ f ++ l ∷ []) → CompletedPair c.args.bytes.now.items l t
joined_here g c l t lead trail last =
    let view = c.from_well_formed-view in
    let same = same_points c.requires.well_formed view.result.well_formed (sym (view.ensures.bytes ∙ c.as_slice.ensures.value)) in
    CompletedPair-from_lead c.requires.well_formed last.0 l t lead trail (same ∙ last.1)

pub from_well_formed-view-requires : goal.from_well_formed-view-requires
from_well_formed-view-requires g c = rw c.as_slice.ensures.value c.requires.well_formed

pub complete_pair-requires-clause-three : goal.complete_pair-requires-clause-three
complete_pair-requires-clause-three g c =
    let met = c.in-Some.ensures in
    (joined_here g (goal.at.complete_pair-requires-clause-three g c).After-from_well_formed-view _ _ met.lead c.requires.trail met.last).three

pub returns-in-Some : goal.returns-in-Some
returns-in-Some g c =
    let met = c.in-Some.ensures in
    let x = joined_here g (goal.at.returns-in-Some g c).After-from_well_formed-view _ _ met.lead c.requires.trail met.last in
    record { whole = _; extends = rw c.to_u32.ensures.value x.extends; becomes = c.complete_pair.ensures }

pub push_unpaired-requires-clause-no_pair : goal.push_unpaired-requires-clause-no_pair
push_unpaired-requires-clause-no_pair g c h m =
    let view = c.from_well_formed-view in
    let same = same_points view.result.well_formed h (view.ensures.bytes ∙ c.as_slice.ensures.value) in
    c.in-None.ensures.none m.front m.lead m.is_lead (same ∙ m.ends)
