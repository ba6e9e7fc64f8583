use Rattle.wtf8.proofs.Common.{ℕ, ◌≡◌, ◌∙◌, [], ap, arith, inl, inr, length, length-take, subst, take, take_all, true, refl, IsKnownForm}
use Rattle.wtf8.proofs.lemmas.codec.Readings.{lists_have_lengths}
use Rattle.wtf8.proofs.lemmas.from_utf16.Transcode.{read_none}
use Rattle.wtf8.proofs.from_utf16.on_stack.write_all.Goals as goal

pub returns-then-v-le-MAX_ONE_BY_ONE-clause-form : goal.returns-then-v-le-MAX_ONE_BY_ONE-clause-form
returns-then-v-le-MAX_ONE_BY_ONE-clause-form c =
    let end = c.write_one_by_one in
    subst (λ u. IsKnownForm (take end.result.0 end.new.out) u end.result.1) (take_all (length c.args.v.now) c.args.v.now (omega arith))
    (end.ensures.read [] [] (read_none true refl)).form

pub returns-clause-form : goal.returns-clause-form
returns-clause-form c =
    let v = c.args.v.now in
    let end = c.write_front-len in
    let own = end.ensures.read.form in
    let all : end.result.1.at ≡ length v = elim end.ensures.stops [
      | inl e ↦ e
      | inr few ↦ absurd
          (omega (arith, lists_have_lengths own.form.points, ap length own.form.reads.same_units, ap length own.form.encoded, length-take {A = ℕ}))
    ] in
    subst (λ u. IsKnownForm (take end.result.0 end.new.out) u end.result.1.is_utf8) (ap (λ n. take n v) all ∙ take_all (length v) v (omega arith)) own
