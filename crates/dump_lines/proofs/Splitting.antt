-- Splitting at the first separator.
use Rattle.std.proofs.Common.{◌≡◌, ◌≢◌, ℕ, ◌+◌, ◌<◌, ◌≤◌, ◌==◌, Bool, false, List, [], ◌∷◌, ◌++◌, length, get_or, take, drop, All, refl}
use Rattle.std.proofs.Common.{sym, ap, ◌∙◌, inl, inr, arith, eq-eqb, length-take-le, take-append-drop, take_all, Option, Some, None, IfNone}
use Rattle.std.proofs.Common.{unwrap_or}
use Rattle.std.specs.Borrow.{Bor}
use Rattle.std.specs.List.{slice_split, onto_first}
use Rattle.std.proofs.lemmas.Bool.{cases_Bool, ne_eqb}
use Rattle.std.proofs.lemmas.List.{drop_more, get_or-take}
use Rattle.std.proofs.lemmas.List.Elements.{All-from_get_or}
use Rattle.std.proofs.lemmas.List.Splits.{slice_split_at, slice_split_none, slice_split-cons_yes, slice_split-cons_no}
use Rattle.dump_lines.specs.Lines.{without_empty_end, lines}
use Rattle.dump_lines.specs.Parts.{parts_left}

-- no separator occurs before index `i`
module _ (separator : ℕ) (xs : List ℕ) (i : ℕ) (none : (k : ℕ) → k < i → get_or xs k 0 ≢ separator) where
  no_separator_in_prefix : i ≤ length xs → All (λ b. (b == separator) ≡ false) (take i xs)
  no_separator_in_prefix within = All-from_get_or (λ b. (b == separator) ≡ false) (take i xs) 0 (λ k lt.
      let inside : k < i = omega (arith, length-take-le i xs within) in
      ne_eqb _ separator (λ is. none k inside (sym (get_or-take i xs k 0 inside) ∙ is)))

  -- a separator at index `i` ends the first part
  pub slice_split-at_separator : i < length xs → get_or xs i 0 ≡ separator
      → slice_split (λ b. b == separator) xs ≡ take i xs ∷ slice_split (λ b. b == separator) (drop (i + 1) xs)
  slice_split-at_separator lt is =
      let parts : xs ≡ take i xs ++ get_or xs i 0 ∷ drop (i + 1) xs =
      sym (take-append-drop i xs) ∙ ap (λ zs. take i xs ++ zs) (drop_more xs i 0 lt) in
      ap (slice_split (λ b. b == separator)) parts
      ∙ slice_split_at (λ b. b == separator) (take i xs) (get_or xs i 0) (drop (i + 1) xs) (no_separator_in_prefix (omega arith))
      (eq-eqb _ _ is)

  -- if `i` is the length, there is one part
  pub slice_split-no_separator : i ≡ length xs → slice_split (λ b. b == separator) xs ≡ xs ∷ []
  slice_split-no_separator end = slice_split_none _ xs (rw (take_all i xs (omega arith)) at (no_separator_in_prefix (omega arith)))

-- splitting gives at least one part
slice_split-nonempty : (p : ℕ → Bool) (xs : List ℕ) → (first : List ℕ) × (rest : List (List ℕ)) × (slice_split p xs ≡ first ∷ rest)
slice_split-nonempty p [] = ([], [], refl)
slice_split-nonempty p (x ∷ xs) =
    let more = slice_split-nonempty p xs in
    elim (cases_Bool (p x)) [
      | inl passes ↦ ([], slice_split p xs, slice_split-cons_yes p x xs passes)
      | inr fails ↦ (x ∷ more.0, more.1, slice_split-cons_no p x xs fails ∙ ap (onto_first x) more.2)
    ]

-- a part before other parts is kept
without_empty_end-cons : (part next : List ℕ) (parts : List (List ℕ))
    → without_empty_end (part ∷ next ∷ parts) ≡ part ∷ without_empty_end (next ∷ parts)
without_empty_end-cons [] next parts = refl
without_empty_end-cons (b ∷ bs) next parts = refl

-- one part is one line unless it is empty
without_empty_end-single : (bytes : List ℕ) → bytes ≢ [] → without_empty_end (bytes ∷ []) ≡ bytes ∷ []
without_empty_end-single [] h = absurd (h refl)
without_empty_end-single (b ∷ bs) h = refl

-- the lines of bytes are the first line and the lines of the rest
pub lines-first : (bytes line : List ℕ) (after : Option (Bor (List ℕ))) (end rest : Bor (List ℕ)) → bytes ≢ []
    → slice_split (λ b. b == 10) bytes ≡ line ∷ parts_left 10 after
    → IfNone after (line ≡ bytes) → end.now ≡ [] → rest ≡ unwrap_or after end → lines bytes ≡ line ∷ lines rest.now
lines-first bytes line None end rest h split whole empty is =
    ap without_empty_end split ∙ without_empty_end-single line (λ e. h (sym whole ∙ e))
    ∙ ap (λ r. line ∷ lines r) (sym empty ∙ ap (λ r. r.now) (sym is))
lines-first bytes line (Some r) end rest h split whole empty is =
    let more = slice_split-nonempty (λ b. b == 10) r.now in
    ap without_empty_end (split ∙ ap (λ parts. line ∷ parts) more.2) ∙ without_empty_end-cons line more.0 more.1
    ∙ ap (λ parts. line ∷ without_empty_end parts) (sym more.2) ∙ ap (λ b. line ∷ lines b.now) (sym is)
