-- A string beside a text in UTF-8.
use Rattle.wtf8.proofs.Common.{◌≡◌, List, ℕ, ap, sym, subst, ◌∙◌, bytes, chars, units, AreScalar, IsUtf8, view_points, view_units, Wtf8}
use Rattle.wtf8.proofs.lemmas.codec.Readings.{same_points, same_reading}
use Rattle.wtf8.proofs.lemmas.strings.ExtendedForms.{scalar_text, well_formed_text}
use Rattle.wtf8.proofs.lemmas.strings.Surrogates.{utf8_of}

-- a string without surrogates is the text of its bytes
pub text_of_bytes : (v : Wtf8) (w : List ℕ) → v.bytes.now ≡ w → AreScalar (view_points v) → IsUtf8 w × (view_units v ≡ units (chars w))
text_of_bytes v w e s =
    let own = v.well_formed in
    let text : IsUtf8 w = subst IsUtf8 (own.encoded ∙ e) (utf8_of own.points own.clean s) in
    (text, ap units (same_points own (well_formed_text w text) e))

-- a string with the units of a text has its bytes and no surrogate
pub bytes_of_text : (v : Wtf8) (w : List ℕ) → IsUtf8 w → view_units v ≡ units (chars w) → (v.bytes.now ≡ w) × AreScalar (view_points v)
bytes_of_text v w text e =
    let own = v.well_formed in
    let other = well_formed_text w text in
    let same = same_reading own.points other.points own.clean other.clean e in
    (sym own.encoded ∙ ap bytes same ∙ other.encoded, subst AreScalar (sym same) (scalar_text text))
