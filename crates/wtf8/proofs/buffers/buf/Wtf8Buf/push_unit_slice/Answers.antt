use Rattle.wtf8.proofs.Common.{◌≡◌, ◌++◌, ◌∷◌, [], ◌∙◌, ℕ, List, arith, ap, subst, sym, length, UnitString, IsForm, IsLead, IfSome}
use Rattle.std.specs.Prelude.{IfNone}
use Rattle.wtf8.proofs.lemmas.codec.Readings.{IsWellFormed-equal_bytes, same_points}
use Rattle.wtf8.proofs.lemmas.strings.PushedUnits.{KeepsFront, contents_kept, front_kept, lead_length, taken_back}
use Rattle.wtf8.proofs.buffers.buf.Wtf8Buf.push_unit_slice.Goals.{After-is_err}
use Rattle.wtf8.proofs.buffers.buf.Wtf8Buf.push_unit_slice.Goals as goal

-- the view before has the code points of the string before
points : (g : _) (c : After-is_err g) → c.as_wtf8.result.well_formed.points ≡ c.self.inside.well_formed.points
points g c = same_points c.as_wtf8.result.well_formed c.self.inside.well_formed
    (c.as_wtf8.ensures.bytes ∙ sym (ap (λ (s : UnitString). s.bytes) c.self.view_is))

-- the lead that ends the string
last : (g : _) (c : After-is_err g)
    → IfSome c.final_lead_surrogate-lead.result (λ l. (f : List ℕ) × (c.self.inside.well_formed.points ≡ f ++ l ∷ []))
last g c = subst (λ p. IfSome c.final_lead_surrogate-lead.result (λ l. (f : List ℕ) × (p ≡ f ++ l ∷ []))) (points g c)
    c.final_lead_surrogate-lead.ensures.last

-- what is left of the string after some parts were appended
front : (g : _) (c : After-is_err g)
    → KeepsFront c.self.inside.bytes.items c.push_parts-pushed.new.self.bytes c.final_lead_surrogate-lead.result
front g c =
    let some = c.push_parts-pushed.ensures.some in
    let new = c.push_parts-pushed.new.self in
    let units = some.1 ∙ ap (λ u. u ++ some.0) (sym (ap (λ (s : UnitString). s.units) c.self.view_is)) in
    let none = subst (λ p. IfNone c.final_lead_surrogate-lead.result ((f : List ℕ) (l : ℕ) → IsLead l → p ≡ f ++ l ∷ [] → ⊥)) (points g c)
    c.final_lead_surrogate-lead.ensures.none in
    front_kept c.final_lead_surrogate-lead.result some.0 c.self.inside.well_formed none (subst (IsForm new.bytes) units new.form)

pub take_back-requires-clause-within : goal.take_back-requires-clause-within
take_back-requires-clause-within g c =
    let kept = front g (goal.at.take_back-requires-clause-within g c).After-is_err in
    omega (arith, ap (λ (s : UnitString). length s.bytes) c.self-2.view_is)

pub take_back-requires-clause-lead : goal.take_back-requires-clause-lead
take_back-requires-clause-lead g c = lead_length c.len-len.result c.self.inside.well_formed c.final_lead_surrogate-lead.result
    (c.len-len.ensures ∙ c.self.inside.bytes.ok.0) c.final_lead_surrogate-lead.ensures.lead
    (last g (goal.at.take_back-requires-clause-lead g c).After-is_err)

pub invariant_of-self-inside : goal.invariant_of-self-inside
invariant_of-self-inside g c =
    let here = (goal.at.invariant_of-self-inside g c).After-is_err in
    let kept = subst (λ w. KeepsFront c.self.inside.bytes.items w c.final_lead_surrogate-lead.result)
    (sym (ap (λ (s : UnitString). s.bytes) c.self-2.view_is)) (front g here) in
    let same = taken_back c.len-len.result c.self-2.inside.bytes.items c.self.inside.well_formed c.final_lead_surrogate-lead.result
    (c.len-len.ensures ∙ c.self.inside.bytes.ok.0) c.final_lead_surrogate-lead.ensures.lead (last g here) kept.begins kept.before_lead
    c.take_back.ensures.begins c.take_back.ensures.lead in
    (IsWellFormed-equal_bytes c.self.inside.well_formed same, (c.self.inside.scalar_prefix, tt))

pub returns-then-is_err-clause-kept : goal.returns-then-is_err-clause-kept
returns-then-is_err-clause-kept g c =
    let here = (goal.at.returns-then-is_err-clause-kept g c).After-is_err in
    let kept = subst (λ w. KeepsFront c.self.inside.bytes.items w c.final_lead_surrogate-lead.result)
    (sym (ap (λ (s : UnitString). s.bytes) c.self-2.view_is)) (front g here) in
    let same = taken_back c.len-len.result c.self-2.inside.bytes.items c.self.inside.well_formed c.final_lead_surrogate-lead.result
    (c.len-len.ensures ∙ c.self.inside.bytes.ok.0) c.final_lead_surrogate-lead.ensures.lead (last g here) kept.begins kept.before_lead
    c.take_back.ensures.begins c.take_back.ensures.lead in
    contents_kept c.push_parts-pushed.result c.args.self.now _ (same ∙ ap (λ (s : UnitString). s.bytes) c.self.view_is)
