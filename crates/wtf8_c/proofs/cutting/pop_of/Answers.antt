use Rattle.std.proofs.Common.{ℕ, ◌≡◌, ◌+◌, ◌-◌, ◌++◌, ◌∷◌, [], length, take, sym, ap, ◌∙◌, refl, subst, arith}
use Rattle.wtf8.specs.CodePoint.{number}
use Rattle.wtf8.specs.Form.{Reads}
use Rattle.wtf8.specs.UnitString.{UnitString}
use Rattle.wtf8.specs.Unicode.{units_of}
use Rattle.wtf8.specs.View.{view_units}
use Rattle.wtf8.specs.declared.strings.view.Wtf8.{Wtf8}
use Rattle.wtf8.proofs.lemmas.codec.Readings.{reads_same}
use Rattle.wtf8_c.specs.Walks.{IsPointBetween}
use Rattle.wtf8_c.proofs.Walks.{before_last, last_units, mark_before_last}
use Rattle.wtf8_c.proofs.cutting.pop_of.Goals as goal

-- the last code point of a view is that of the string
last_of_string : (old : UnitString) (text : Wtf8) (begin len p : ℕ) → text.bytes.now ≡ old.bytes → view_units text ≡ old.units
    → len ≡ length text.bytes.now → IsPointBetween (view_units text) begin len p → IsPointBetween old.units begin (length old.bytes) p
last_of_string old text begin len p same_bytes same_units is q =
    subst (λ k. IsPointBetween old.units begin k p) (is ∙ ap length same_bytes) (subst (λ u. IsPointBetween u begin len p) same_units q)

pub truncate_at-requires : goal.truncate_at-requires
truncate_at-requires c =
    let old = c.args.buf.now in
    let p = number c.in-Some.last in
    let seen = c.as_wtf8-text.ensures in
    let between = last_of_string old c.as_wtf8-text.result _ c.len-len.result p seen.bytes seen.units c.len-len.ensures.bytes c.in-Some.ensures.some in
    let n = c.unit_len.result - c.len_utf16.result in
    let fewer : n + length (units_of p) ≡ length old.units =
    omega (arith, c.unit_len.ensures, c.len_utf16.ensures.value, last_units old.form between) in
    mark_before_last old.form between n fewer

pub returns-in-Some-clause-ok : goal.returns-in-Some-clause-ok
returns-in-Some-clause-ok c _ =
    let old = c.args.buf.now in
    let now = c.truncate_at.new.self in
    let p = number c.in-Some.last in
    let seen = c.as_wtf8-text.ensures in
    let between = last_of_string old c.as_wtf8-text.result _ c.len-len.result p seen.bytes seen.units c.len-len.ensures.bytes c.in-Some.ensures.some in
    let last = before_last old.form between refl in
    let left : now.units ≡ take (length old.units - length (units_of p)) old.units =
    c.truncate_at.ensures.units ∙ ap (λ n. take n old.units) (omega (arith, c.unit_len.ensures, c.len_utf16.ensures.value)) in
    last.points ∙ ap (λ f. f ++ p ∷ []) (reads_same last.reads (subst (λ v. Reads now.form.points v) left now.form.reads))
    ∙ ap (λ x. now.form.points ++ x ∷ []) (sym c.to_u32.ensures.value)
