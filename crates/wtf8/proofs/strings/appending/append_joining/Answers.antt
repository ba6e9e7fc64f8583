use Rattle.wtf8.proofs.Common.{◌≡◌, ◌∙◌, ◌++◌, ◌∷◌, [], List, ℕ, refl, sym, MeetsAsPair, IsLead, IsTrail}
use Rattle.wtf8.proofs.lemmas.strings.Concatenation.{meeting_bytes}
use Rattle.wtf8.proofs.lemmas.strings.ExtendedForms.{ExtendsForm-meeting_pair, ExtendsForm-append}
use Rattle.wtf8.proofs.lemmas.codec.Readings.{meets_by, MeetsAsPair-equal_lists, same_points}
use Rattle.wtf8.proofs.strings.appending.append_joining.Goals.{After-from_well_formed-view}
use Rattle.wtf8.proofs.strings.appending.append_joining.Goals as goal

-- the view of the bytes has their code points, and so the same pair at the seam
view_has_same_points : (g : _) (c : After-from_well_formed-view g)
    → c.from_well_formed-view.result.well_formed.points ≡ c.requires.points
view_has_same_points g c =
    same_points c.from_well_formed-view.result.well_formed c.requires (c.from_well_formed-view.ensures.bytes ∙ c.as_slice.ensures.value)

abbrev paired : {a b c : List ℕ} {l t : ℕ} → a ≡ b → IsLead l × IsTrail t → (f : List ℕ) × (a ≡ f ++ l ∷ []) → (r : List ℕ) × (c ≡ t ∷ r)
    → MeetsAsPair b c
paired {l} {t} e both last first = meets_by last.0 first.0 l t both.0 both.1 (sym e ∙ last.1) first.1

pub from_well_formed-view-requires : goal.from_well_formed-view-requires
from_well_formed-view-requires g c = rw c.as_slice.ensures.value c.requires

pub append_completing_pair-requires : goal.append_completing_pair-requires
append_completing_pair-requires g c =
    let met = c.in-Some.ensures in
    let same = view_has_same_points g (goal.at.append_completing_pair-requires g c).After-from_well_formed-view in
    let s = meeting_bytes (paired same met.pair met.last met.first) c.requires.encoded c.args.other.well_formed.encoded in
    record { lead = met.pair.0; trail = met.pair.1; three = s.three; begins = (s.three_after, s.last) }

pub returns-in-Some : goal.returns-in-Some
returns-in-Some g c =
    let met = c.in-Some.ensures in
    let m = paired (view_has_same_points g (goal.at.returns-in-Some g c).After-from_well_formed-view) met.pair met.last met.first in
    record {
      whole = _;
      extends = ExtendsForm-meeting_pair c.requires c.args.other.well_formed m;
      becomes = c.append_completing_pair.ensures;
    }

pub returns-in-None : goal.returns-in-None
returns-in-None g c =
    let same = view_has_same_points g (goal.at.returns-in-None g c).After-from_well_formed-view in
    let extension =
    ExtendsForm-append c.requires c.args.other.well_formed (λ m. c.in-None.ensures.none (MeetsAsPair-equal_lists m same refl)) in
    record { whole = _; extends = extension; becomes = c.append_bytes.ensures }
