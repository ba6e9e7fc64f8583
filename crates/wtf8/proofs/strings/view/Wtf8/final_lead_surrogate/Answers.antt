use Rattle.wtf8.proofs.Common.{◌++◌, ◌∷◌, [], arith, ap, sym, ◌∙◌, ◌≡◌, List, ℕ, bytes, IsWellFormed, IsLead}
use Rattle.wtf8.proofs.lemmas.strings.Surrogates.{EndsInSurrogate, ends_in_surrogate, last_surrogate}
use Rattle.wtf8.proofs.strings.view.Wtf8.final_lead_surrogate.Goals as goal

ends_in_lead : {w : List ℕ} (h : IsWellFormed w) (f : List ℕ) (l : ℕ) → IsLead l → h.points ≡ f ++ l ∷ [] → EndsInSurrogate w l
ends_in_lead {w} h f l lead e = ends_in_surrogate w f l (omega arith, omega arith) (ap bytes (sym e) ∙ h.encoded)

pub surrogate_after_ed-requires-clause-third : goal.surrogate_after_ed-requires-clause-third
surrogate_after_ed-requires-clause-third c =
    let n = (last_surrogate c.args.self.now.well_formed (omega arith) (omega arith) (omega arith)).ends in omega arith

pub returns-in-237 : goal.returns-in-237
returns-in-237 c =
    let p = last_surrogate c.args.self.now.well_formed (omega arith) (omega arith) (omega arith) in
    let n = p.ends in
    record {
      lead = (omega (arith, p.surrogate), omega (arith, p.surrogate));
      last = (p.front, p.joined ∙ ap (λ q. p.front ++ q ∷ []) (omega (arith, p.surrogate)));
      none = tt;
    }

pub returns-in_default-clause-none : goal.returns-in_default-clause-none
returns-in_default-clause-none c f l h e = let n = ends_in_lead c.args.self.now.well_formed f l h e in omega arith

pub returns-in_default-2-clause-none : goal.returns-in_default-2-clause-none
returns-in_default-2-clause-none c f l h e = let n = ends_in_lead c.args.self.now.well_formed f l h e in omega arith

pub returns-in_default-3-clause-none : goal.returns-in_default-3-clause-none
returns-in_default-3-clause-none c f l h e = let n = ends_in_lead c.args.self.now.well_formed f l h e in omega arith

pub returns-in_default-4-clause-none : goal.returns-in_default-4-clause-none
returns-in_default-4-clause-none c f l h e = let n = ends_in_lead c.args.self.now.well_formed f l h e in omega arith
