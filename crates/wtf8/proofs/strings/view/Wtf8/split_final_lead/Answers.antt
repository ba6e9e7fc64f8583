use Rattle.wtf8.proofs.Common.{◌∙◌, ◌∷◌, ◌++◌, [], ap, sym, subst, arith, units, IsWellFormed}
use Rattle.wtf8.proofs.lemmas.codec.Readings.{same_points, units_one, units-pushed}
use Rattle.wtf8.proofs.lemmas.strings.Concatenation.{lead_last}
use Rattle.wtf8.proofs.lemmas.strings.Editing.{before_lead}
use Rattle.wtf8.proofs.strings.view.Wtf8.split_final_lead.Goals as goal

pub returns-in_default-clause-none : goal.returns-in_default-clause-none
returns-in_default-clause-none c f l lead e =
    let last = lead_last c.args.self.well_formed.points f l lead e in c.in_default.ensures.none last.0 l lead last.1

pub overflow_sub-self : goal.overflow_sub-self
overflow_sub-self c =
    let last = c.in-Some.ensures.last in (before_lead c.args.self.well_formed last.0 c.in-Some.lead c.in-Some.ensures.lead last.1).0

pub from_well_formed-requires : goal.from_well_formed-requires
from_well_formed-requires c =
    let last = c.in-Some.ensures.last in
    let front = (before_lead c.args.self.well_formed last.0 c.in-Some.lead c.in-Some.ensures.lead last.1).1 in
    subst IsWellFormed (sym c.split_at.ensures.front) front.0

pub returns-clause-joined : goal.returns-clause-joined
returns-clause-joined c =
    let l = c.in-Some.lead in
    let last = c.in-Some.ensures.last in
    let front = (before_lead c.args.self.well_formed last.0 l c.in-Some.ensures.lead last.1).1 in
    let same = same_points c.from_well_formed.result.well_formed front.0 (c.from_well_formed.ensures.bytes ∙ c.split_at.ensures.front) in
    ap units last.1 ∙ (units-pushed last.0 l ∙ (ap (λ u. units last.0 ++ u) (units_one l (omega (arith, c.in-Some.ensures.lead)))
    ∙ ap (λ f. units f ++ l ∷ []) (sym (same ∙ front.1))))
