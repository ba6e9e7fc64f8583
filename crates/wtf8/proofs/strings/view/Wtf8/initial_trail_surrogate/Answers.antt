use Rattle.wtf8.proofs.Common.{◌≡◌, ℕ, ◌∷◌, ◌∙◌, List, length, sym, ap, arith, bytes, encoding, IsWellFormed, IsTrail, FirstPointByLead}
use Rattle.wtf8.proofs.lemmas.codec.Encoding.{begins_with}
use Rattle.wtf8.proofs.lemmas.codec.Readings.{first_of}
use Rattle.wtf8.proofs.strings.view.Wtf8.initial_trail_surrogate.Goals as goal

-- the first three bytes of a string that begins with a trail
trail_by_lead : {w : List ℕ} (h : IsWellFormed w) (t : ℕ) (r : List ℕ) → IsTrail t → h.points ≡ t ∷ r
    → FirstPointByLead w t (length (encoding t))
trail_by_lead h t r i e = (begins_with t (bytes r) _ (omega arith) (sym h.encoded ∙ ap bytes e)).by_lead

pub surrogate_after_ed-requires-clause-third : goal.surrogate_after_ed-requires-clause-third
surrogate_after_ed-requires-clause-third c = let s = (first_of c.args.self.well_formed (omega arith)).0.by_lead in omega arith

pub returns-in-237 : goal.returns-in-237
returns-in-237 c =
    let f = first_of c.args.self.well_formed (omega arith) in
    let s = f.0.by_lead in
    record {
      trail = (omega arith, omega arith);
      first = (f.1.rest.points, f.1.joined ∙ ap (λ q. q ∷ f.1.rest.points) (omega arith));
      none = tt;
    }

pub returns-in_default-clause-none : goal.returns-in_default-clause-none
returns-in_default-clause-none c t r i e = let s = trail_by_lead c.args.self.well_formed t r i e in grind arith

pub returns-in_default-2-clause-none : goal.returns-in_default-2-clause-none
returns-in_default-2-clause-none c t r i e = let s = trail_by_lead c.args.self.well_formed t r i e in omega arith

pub returns-in_default-3-clause-none : goal.returns-in_default-3-clause-none
returns-in_default-3-clause-none c t r i e = let s = trail_by_lead c.args.self.well_formed t r i e in omega arith

pub returns-in_default-4-clause-none : goal.returns-in_default-4-clause-none
returns-in_default-4-clause-none c t r i e = let s = trail_by_lead c.args.self.well_formed t r i e in grind arith
