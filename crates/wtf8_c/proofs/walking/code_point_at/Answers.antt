use Rattle.std.proofs.Common.{◌≡◌, ℕ, ◌+◌, ◌≤◌, List, ◌∷◌, Option, None, Some, length, drop, ap, sym, refl, ◌∙◌, arith, length-append, length-drop}
use Rattle.std.specs.Iterator.{YieldsFirstBy}
use Rattle.std.specs.Prelude.{IfSome, IsNone}
use Rattle.wtf8.specs.CodePoint.{number}
use Rattle.wtf8.specs.Form.{bytes, encoding}
use Rattle.wtf8.specs.Position.{IsBack}
use Rattle.wtf8.specs.View.{view_points, view_units, view_form}
use Rattle.wtf8.specs.declared.codec.code_point.CodePoint.{CodePoint}
use Rattle.wtf8.specs.declared.strings.view.Wtf8.{Wtf8}
use Rattle.wtf8.proofs.lemmas.codec.Encoding.{length-encoding_bounds}
use Rattle.wtf8.proofs.lemmas.codec.Readings.{reads_same}
use Rattle.wtf8.proofs.lemmas.strings.PositionLaws.{none_is_beyond}
use Rattle.wtf8.proofs.lemmas.strings.Positions.{back_reads}
use Rattle.wtf8_c.specs.Walks.{IsPointBetween}
use Rattle.wtf8_c.proofs.Walks.{first_after}
use Rattle.wtf8_c.proofs.walking.code_point_at.Goals as goal

some_after : {u : List ℕ} {k : ℕ} (s : Wtf8) → IsBack u k (view_units s) → (c : List ℕ) → c ≡ view_points s → (r : Option CodePoint) (t : List ℕ)
    → YieldsFirstBy number (λ points. points) c r t → IfSome r (λ p. IsPointBetween u k (k + length (encoding (number p))) (number p))
some_after s b c is None t y = tt
some_after s b c is (Some p) t y =
    let whole : b.back ≡ view_points s = reads_same (back_reads b) (record { clean = s.well_formed.clean; same_units = refl }) in
    first_after b (number p) t (whole ∙ (sym is ∙ y))

some_within : (s : Wtf8) (k : ℕ) (w : List ℕ) → s.bytes.now ≡ drop k w → (c : List ℕ) → c ≡ view_points s → (r : Option CodePoint) (t : List ℕ)
    → YieldsFirstBy number (λ points. points) c r t → IfSome r (λ p. k + length (encoding (number p)) ≤ length w)
some_within s k w e c is None t y = tt
some_within s k w e c is (Some p) t y =
    let points : view_points s ≡ number p ∷ t = sym is ∙ y in
    omega (
      arith,
      length-drop k w,
      ap length e,
      ap length s.well_formed.encoded,
      ap (λ v. length (bytes v)) points,
      length-append (encoding (number p)) (bytes t),
      length-encoding_bounds (number p),
    )

none_at : (s : Wtf8) (k : ℕ) (w : List ℕ) → s.bytes.now ≡ drop k w → k ≤ length w → (c : List ℕ) → c ≡ view_points s → (r : Option CodePoint) (t : List ℕ)
    → YieldsFirstBy number (λ points. points) c r t → IsNone r → k ≡ length w
none_at s k w e l c is None t y n =
    omega (arith, l, length-drop k w, ap length e, ap length s.well_formed.encoded, ap (λ v. length (bytes v)) (sym is ∙ y.0))
none_at s k w e l c is (Some p) t y n = cc

pub returns-clause-some : goal.returns-clause-some
returns-clause-some c = some_after c.slice_from.result c.slice_from.ensures.units _ c.code_points.ensures.points _ _ c.next.ensures.steps

pub returns-clause-within : goal.returns-clause-within
returns-clause-within c =
    some_within c.slice_from.result _ _ c.slice_from.ensures.bytes _ c.code_points.ensures.points _ _ c.next.ensures.steps

pub returns-clause-none : goal.returns-clause-none
returns-clause-none c =
    none_at c.slice_from.result _ _ c.slice_from.ensures.bytes (none_is_beyond _ _ _ (view_form c.args.text) c.requires) _
    c.code_points.ensures.points _ _ c.next.ensures.steps
