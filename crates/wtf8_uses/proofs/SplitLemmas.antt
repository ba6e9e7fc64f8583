-- The parts of a list that is split at a number.
use Rattle.std.proofs.Common.{◌≡◌, ◌≢◌, ℕ, suc, Bool, true, false, cond, eqb, List, [], ◌∷◌, refl, sym, subst, arith}
use Rattle.std.proofs.lemmas.Bool.Decides.{nat_tests}
use Rattle.std.proofs.lemmas.List.Elements.{All-nil, All-cons}
use Rattle.std.proofs.lemmas.List.Splits.{join_with_byte-slice_split}
use Rattle.std.specs.List.{All, join_with_byte, onto_first, slice_split}

-- joining the parts with the separator returns the list
pub join_with_byte-pieces : (c : ℕ) (u : List ℕ) {parts : List (List ℕ)} → parts ≡ slice_split (λ x. eqb x c) u → join_with_byte c parts ≡ u
join_with_byte-pieces c u e = rw e (join_with_byte-slice_split c u)

module _ (c : ℕ) where
  abbrev pub Lacks : List ℕ → Type 0
  Lacks part = All (λ x. x ≢ c) part

  Lacks-onto_first : (x : ℕ) (parts : List (List ℕ)) → x ≢ c → All Lacks parts → All Lacks (onto_first x parts)
  Lacks-onto_first x [] h k = All-cons Lacks (x ∷ []) [] (All-cons (λ y. y ≢ c) x [] h (All-nil _)) (All-nil _)
  Lacks-onto_first x (part ∷ parts) h k =
      All-cons Lacks (x ∷ part) parts (All-cons (λ y. y ≢ c) x part h (k 0 [] (omega arith))) (λ j d m. k (suc j) d (omega arith))

  Lacks-cond_split : (x : ℕ) (parts : List (List ℕ)) (b : Bool) → eqb x c ≡ b → All Lacks parts
      → All Lacks (cond b ([] ∷ parts) (onto_first x parts))
  Lacks-cond_split x parts true e k = All-cons Lacks [] parts (All-nil _) k
  Lacks-cond_split x parts false e k = Lacks-onto_first x parts (λ h. grind (arith, nat_tests, e, h)) k

  slice_split-Lacks : (u : List ℕ) → All Lacks (slice_split (λ x. eqb x c) u)
  slice_split-Lacks [] = All-cons Lacks [] [] (All-nil _) (All-nil _)
  slice_split-Lacks (x ∷ u) = Lacks-cond_split x (slice_split (λ y. eqb y c) u) (eqb x c) refl (slice_split-Lacks u)

  -- no part contains the separator
  pub slice_split-pieces_lack : (u : List ℕ) {parts : List (List ℕ)} → parts ≡ slice_split (λ x. eqb x c) u → All Lacks parts
  slice_split-pieces_lack u e = subst (All Lacks) (sym e) (slice_split-Lacks u)
