-- The words of a line that were parsed so far.
use Rattle.std.proofs.Common.{◌≡◌, ℕ, List, [], ◌∷◌, ◌++◌, sym, ◌∙◌, append_assoc}
use Rattle.std.specs.List.{AllZip}
use Rattle.wtf8.specs.declared.buffers.build.Build.{Build}
use Rattle.dump_lines.specs.Lines.{words}
use Rattle.dump_lines.specs.Word.{IsCall}
use Rattle.dump_lines.proofs.Outputs.{AllZip-push_pair}

-- `calls` are the calls of the first words of the line, and `rest` are the words after them.
pub record AreParsed (line : List ℕ) (rest : List (List ℕ)) (calls : List Build) : Type 0 where
  pub front : List (List ℕ)
  pub split : words line ≡ front ++ rest
  pub each : AllZip IsCall front calls

-- one more word is parsed
pub AreParsed-push : (line word : List ℕ) (rest : List (List ℕ)) (calls : List Build) (call : Build) → AreParsed line (word ∷ rest) calls
    → IsCall word call → AreParsed line rest (calls ++ call ∷ [])
AreParsed-push line word rest calls call r is = record {
  front = r.front ++ word ∷ [];
  split = r.split ∙ sym (append_assoc r.front (word ∷ []) rest);
  each = AllZip-push_pair IsCall r.front calls word call r.each is;
}
