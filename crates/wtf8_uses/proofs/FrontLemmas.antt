-- The common prefix of two lists.
use Rattle.std.proofs.Common.{◌≡◌, ℕ, ◌+◌, List, [], ◌∷◌, ◌++◌, sym, ap, ◌∙◌, append_assoc}
use Rattle.std.proofs.lemmas.List.{length-append}
use Rattle.wtf8_uses.specs.CommonFront.{ShareFront}

-- if the next numbers are equal, the common prefix grows by one
pub ShareFront-push : {u v rest other : List ℕ} {n : ℕ} → ShareFront u v rest other n → (x y : ℕ) (xs ys : List ℕ) → rest ≡ x ∷ xs
    → other ≡ y ∷ ys → x ≡ y → ShareFront u v xs ys (n + 1)
ShareFront-push s x y xs ys e f same = record {
  front = s.front ++ x ∷ [];
  joined = s.joined ∙ (ap (λ z. s.front ++ z) e ∙ sym (append_assoc s.front (x ∷ []) xs));
  other_joined = s.other_joined ∙ (ap (λ z. s.front ++ z) (f ∙ ap (λ z. z ∷ ys) (sym same)) ∙ sym (append_assoc s.front (x ∷ []) ys));
  counted = length-append s.front (x ∷ []) ∙ ap (λ m. m + 1) s.counted;
}
