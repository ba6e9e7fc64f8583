-- A string that begins with a text in UTF-8.
use Rattle.wtf8.proofs.Common.{arith, ◌≡◌, ℕ, List, ◌++◌, ◌∙◌, refl, sym, ap, length, take, drop, take-append-drop, take_at, chars, units}
use Rattle.wtf8.proofs.Common.{All-drop, IsForm, IsFront, IsUnit, IsUtf8, Wtf8, form_of, view_units}
use Rattle.wtf8.proofs.lemmas.codec.Readings.{form-append, units-append}
use Rattle.wtf8.proofs.lemmas.strings.Concatenation.{one_form, units_read}
use Rattle.wtf8.proofs.lemmas.strings.ExtendedForms.{scalar_front_unpaired, scalar_text, well_formed_text}

-- a list of units begins with the units before a boundary
pub begins_with_front : {u v : List ℕ} {k : ℕ} → IsFront u k v → take (length v) u ≡ v
begins_with_front {u} {v} f = grind (arith, units-append, take_at)

-- in a string whose units begin with a text's there is a boundary after the text's bytes
pub text_front : (v : Wtf8) (w : List ℕ) → IsUtf8 w → take (length (units (chars w))) (view_units v) ≡ units (chars w)
    → IsFront (view_units v) (length w) (units (chars w))
text_front v w text begins =
    let u = view_units v in
    let n = length (units (chars w)) in
    let read = units_read v.well_formed.points u record { clean = v.well_formed.clean; same_units = refl } in
    let back = one_form (drop n u) (All-drop IsUnit n u read) in
    let front : IsForm w (units (chars w)) = form_of (well_formed_text w text) in
    let whole = form-append front back.has (scalar_front_unpaired (scalar_text text)) in
    record {
      front = chars w;
      back = back.has.points;
      splits = record {
        reads = record {
          clean = whole.reads.clean;
          same_units = whole.reads.same_units ∙ (ap (λ z. z ++ drop n u) (sym begins) ∙ take-append-drop n u);
        };
        front_len = ap length (well_formed_text w text).encoded;
      };
      same_units = refl;
    }
