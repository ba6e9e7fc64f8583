-- The output for the lines so far.
use Rattle.std.proofs.Common.{◌≡◌, ℕ, List, [], ◌∷◌, ◌++◌, ap, ◌∙◌, append_assoc}
use Rattle.std.proofs.lemmas.List.{flat_map_more}
use Rattle.std.specs.List.{AllZip}
use Rattle.dump_lines.specs.Dump.{IsOutput, HoldsOutputs}

-- lists that are related element by element, each with one more element, if these are related too
pub AllZip-push_pair : {A B : Type 0} (R : A → B → Type 0) (xs : List A) (ys : List B) (x : A) (y : B) → AllZip R xs ys → R x y
    → AllZip R (xs ++ x ∷ []) (ys ++ y ∷ [])
AllZip-push_pair R [] [] x y h here = (here, tt)
AllZip-push_pair R [] (b ∷ ys) x y h here = absurd h
AllZip-push_pair R (a ∷ xs) [] x y h here = absurd h
AllZip-push_pair R (a ∷ xs) (b ∷ ys) x y h here = (h.0, AllZip-push_pair R xs ys x y h.1 here)

-- the output for one more line, with its newline, is appended
pub HoldsOutputs-push : (lines : List (List ℕ)) (out new line output : List ℕ) → HoldsOutputs lines out → IsOutput line output
    → new ≡ (out ++ output) ++ 10 ∷ [] → HoldsOutputs (lines ++ line ∷ []) new
HoldsOutputs-push lines out new line output h here e = record {
  outputs = h.outputs ++ output ∷ [];
  each = AllZip-push_pair IsOutput lines h.outputs line output h.each here;
  joined = e ∙ append_assoc out output (10 ∷ []) ∙ ap (λ bytes. bytes ++ (output ++ 10 ∷ [])) h.joined
      ∙ flat_map_more (λ a. a ++ 10 ∷ []) [] h.outputs output;
}
