use Rattle.wtf8.proofs.Common.{◌≡◌, ◌∙◌, ◌++◌, ◌∷◌, [], ℕ, List, None, ap, refl, rules, subst, option_to_list, MeetsAsPair}
use Rattle.wtf8.specs.private.Middles.{middle_units}
use Rattle.wtf8.proofs.lemmas.codec.Readings.{cons-equal_parts, unpaired-nil_left}
use Rattle.wtf8.proofs.strings.editing.take_pair_before.Goals.{then-is_some+in_default, else-is_some}
use Rattle.wtf8.proofs.strings.editing.take_pair_before.Goals as goal

-- what begins a list that is not empty begins it too with others after it
first_of : (u x : List ℕ) (t : ℕ) (r : List ℕ) → ¬ (u ≡ []) → u ++ x ≡ t ∷ r → (s : List ℕ) × (u ≡ t ∷ s)
first_of [] x t r n e = absurd (n refl)
first_of (p ∷ u) x t r n e = (u, ap (λ q. q ∷ u) (cons-equal_parts p t (u ++ x) r e).0)

pub returns-clause-apart : goal.returns-clause-apart
returns-clause-apart c x m = elim c.if-is_some.branch [
  | then-is_some+in_default w ↦
      let first = first_of (middle_units c.args.middle) x m.trail m.rest c.requires.some m.begins in
      w.in_default.ensures.none m.trail first.0 m.is_trail first.1
  | else-is_some w ↦
      let none : c.args.head ≡ None = search rules in
      unpaired-nil_left (subst (λ u. MeetsAsPair u (middle_units c.args.middle ++ x))
      (c.both-2.ensures.units ∙ ap (λ h. option_to_list h ++ []) none) m)
]
