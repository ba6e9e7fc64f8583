-- The output for a line, and the dump of an input.
use Rattle.std.specs.Prelude.{◌≡◌, ℕ, zero, suc, List, [], ◌∷◌, ◌++◌}
use Rattle.std.specs.Fmt.{decimal}
use Rattle.std.specs.List.{Any, AllZip, flat_map}
use Rattle.wtf8.specs.Building.{Run}
use Rattle.wtf8.specs.Form.{IsForm}
use Rattle.wtf8.specs.Hex.{hex}
use Rattle.wtf8.specs.declared.buffers.build.Build.{Build}
use Rattle.dump_lines.specs.Lines.{lines, words}
use Rattle.dump_lines.specs.Word.{IsCall, IsNoCall}

-- What follows the bytes `w` of a string: nothing if no truncation was refused, else an exclamation mark and the number
-- of refused truncations, after a space if there are bytes.
abbrev pub note : List ℕ → ℕ → List ℕ
note w zero = []
note [] (suc n) = 33 ∷ decimal (suc n)
note (byte ∷ w) (suc n) = 32 ∷ 33 ∷ decimal (suc n)

-- The output for a line: a question mark if a word is malformed, else the bytes, in hexadecimal, of the string that the
-- calls of its words build from the empty string, and the note of refused truncations.
pub data IsOutput (line output : List ℕ) : Type 0 where
  refused : Any IsNoCall (words line) → output ≡ 63 ∷ [] → IsOutput line output
  dumped : (calls : List Build) (v : List ℕ) (n : ℕ) (w : List ℕ) → AllZip IsCall (words line) calls → Run [] calls v n → IsForm w v
      → output ≡ hex w ++ note w n → IsOutput line output

-- `out` is the output for each of the lines, in order, with a newline after each.
pub record HoldsOutputs (lines : List (List ℕ)) (out : List ℕ) : Type 0 where
  pub outputs : List (List ℕ)
  pub each : AllZip IsOutput lines outputs
  pub joined : out ≡ flat_map (λ output. output ++ 10 ∷ []) outputs

-- The dump of an input is the output for its lines, with a newline after each, and nothing else.
abbrev pub IsDump : List ℕ → List ℕ → Type 0
IsDump input out = HoldsOutputs (lines input) out
