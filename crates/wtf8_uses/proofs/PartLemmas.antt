-- The components of paths.
use Rattle.std.proofs.Common.{◌≡◌, ◌↔◌, ℕ, inl, inr, true, false, IsTrue, List, [], ◌∷◌, ◌++◌, length, map, refl, sym, ap, ◌∙◌}
use Rattle.std.proofs.Common.{append_assoc, arith}
use Rattle.std.proofs.lemmas.Bool.{false≢true}
use Rattle.std.proofs.lemmas.Bool.Decides.{nat_tests}
use Rattle.std.proofs.lemmas.List.{length-append, map-append}
use Rattle.std.proofs.lemmas.List.Splits.{length-slice_split, slice_split_at, slice_split_none}
use Rattle.std.specs.List.{slice_split}
use Rattle.wtf8.specs.View.{view_units}
use Rattle.wtf8.specs.Types.{Wtf8}
use Rattle.wtf8_uses.specs.FileName.{BeginsWith, IsEither, HasNeither, is_separator}

-- the components of a path
abbrev pub parts : Wtf8 → List (List ℕ)
parts path = slice_split is_separator (view_units path)

-- the result true is right if the equivalent condition holds
pub true_from_iff : {P Q : Type 0} → P ↔ Q → Q → IsTrue true ↔ P
true_from_iff e q = (λ _. e.1 q, λ _. refl)

-- the result false is right if the equivalent condition fails
pub false_from_iff : {P Q : Type 0} → P ↔ Q → ¬ Q → IsTrue false ↔ P
false_from_iff e none = (λ t. absurd (false≢true t), λ p. absurd (none (e.0 p)))

-- the first component is the part before the first separator
pub slice_split-first_part : (u front back : List ℕ) (m : ℕ) → u ≡ front ++ m ∷ back → IsEither 0x2F 0x5C m → HasNeither 0x2F 0x5C front
    → slice_split is_separator u ≡ front ∷ slice_split is_separator back
slice_split-first_part u front back m e separator none =
    rw e (slice_split_at is_separator front m back (λ k d h. grind (arith, nat_tests, none.first k d h, none.second k d h))
    (elim separator [ inl l ↦ grind (arith, nat_tests, l) | inr r ↦ grind (arith, nat_tests, r) ]))

-- units without a separator are one component
pub slice_split-one_part : (u : List ℕ) → HasNeither 0x2F 0x5C u → slice_split is_separator u ≡ u ∷ []
slice_split-one_part u none = slice_split_none is_separator u (λ k d h. grind (arith, nat_tests, none.first k d h, none.second k d h))

-- a list begins with its first part
pub BeginsWith-first : (x y : List ℕ) (xs us vs : List (List ℕ)) → us ≡ x ∷ xs → vs ≡ y ∷ [] → x ≡ y → BeginsWith us vs
BeginsWith-first x y xs us vs e f same = record { rest = xs; joined = cc (e, f, same) }

-- a list of one part does not begin with more than one
pub not_BeginsWith-one_part : (x y : List ℕ) (u : List ℕ) (us vs : List (List ℕ)) → us ≡ x ∷ [] → vs ≡ y ∷ slice_split is_separator u
    → ¬ (BeginsWith us vs)
not_BeginsWith-one_part x y u us vs e f b =
    omega (arith, simp length-append at (ap length (sym e ∙ (b.joined ∙ ap (λ z. z ++ b.rest) f))), length-slice_split is_separator u)

-- the components found so far and the components of the rest `u` are the whole list; `part` is found next
module _ {X : Type 0} (f : X → List ℕ) (old new : List X) (part : X) (u : List ℕ) (whole : List (List ℕ)) (added : new ≡ old ++ part ∷ [])
    (are : map f old ++ slice_split is_separator u ≡ whole) where
  -- `part` is before the first separator of the rest
  pub slice_split-part_pushed : (back : List ℕ) (m : ℕ) → u ≡ f part ++ m ∷ back → IsEither 0x2F 0x5C m → HasNeither 0x2F 0x5C (f part)
      → map f new ++ slice_split is_separator back ≡ whole
  slice_split-part_pushed back m e separator none =
      rw (added, map-append f old (part ∷ []), append_assoc (map f old) (f part ∷ []) (slice_split is_separator back))
      (ap (λ ys. map f old ++ ys) (sym (slice_split-first_part u (f part) back m e separator none)) ∙ are)

  -- `part` is all of the rest, which has no separator
  pub slice_split-last_part : u ≡ f part → HasNeither 0x2F 0x5C u → map f new ≡ whole
  slice_split-last_part e none =
      rw (added, map-append f old (part ∷ [])) (ap (λ ys. map f old ++ ys) (sym (slice_split-one_part u none ∙ ap (λ y. y ∷ []) e)) ∙ are)
