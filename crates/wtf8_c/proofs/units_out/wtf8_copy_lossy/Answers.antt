use Rattle.std.proofs.Common.{◌≡◌, ◌∙◌, ap, sym, subst, refl, rules}
use Rattle.wtf8.specs.Form.{bytes}
use Rattle.wtf8.specs.Surrogates.{AreScalar, lossy_points}
use Rattle.wtf8.specs.UnitString.{UnitString}
use Rattle.wtf8.proofs.lemmas.strings.Surrogates.{lossy_points-scalar}
use Rattle.wtf8_c.proofs.units_out.wtf8_copy_lossy.Goals as goal

pub returns-in-Some-clause-ok : goal.returns-in-Some-clause-ok
returns-in-Some-clause-ok c =
    let own = c.args.string.now.buf in
    let same = c.buffer-buf.ensures.value in
    let scalar : AreScalar own.form.points = subst (λ (b : UnitString). AreScalar b.form.points) same (c.in-Some.ensures.scalar refl) in
    let text : bytes (lossy_points own.form.points) ≡ c.as_bytes.result.now =
    ap bytes (lossy_points-scalar own.form.points scalar) ∙ (own.form.encoded
    ∙ sym (c.as_bytes.ensures.value ∙ (c.in-Some.ensures.bytes ∙ ap (λ (b : UnitString). b.bytes) same))) in
    rw text (search rules)
