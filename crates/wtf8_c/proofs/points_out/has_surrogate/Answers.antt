use Rattle.std.proofs.Common.{ℕ, List, [], ◌∷◌, ◌+◌, ◌<◌, length, take, sym, subst, ◌∙◌}
use Rattle.std.proofs.Math.ListN.{get_or}
use Rattle.std.proofs.lemmas.Bool.{false≢true, or_parts}
use Rattle.std.proofs.lemmas.List.{take_more}
use Rattle.wtf8.specs.Surrogates.{AreScalar}
use Rattle.wtf8.specs.Unicode.{IsSurrogate}
use Rattle.wtf8.proofs.lemmas.codec.Scalars.{scalar-append}
use Rattle.wtf8_c.proofs.points_out.has_surrogate.Goals as goal

-- one more unit is no surrogate
scalar_next : (u : List ℕ) (k : ℕ) → k < length u → AreScalar (take k u) → ¬ (IsSurrogate (get_or u k 0)) → AreScalar (take (k + 1) u)
scalar_next u k l s n = subst AreScalar (sym (take_more u k 0 l)) (scalar-append (take k u) (get_or u k 0 ∷ []) s (n, tt))

pub loop-at-preserved : goal.loop-at-preserved
loop-at-preserved c none =
    let neither = or_parts c.loop-at.found c.is_surrogate-found.result none in
    scalar_next c.args.units.now c.loop-at.at c.loop-at-test.true (c.loop-at.invariant neither.0)
    (λ s. false≢true (sym neither.1 ∙ c.is_surrogate-found.ensures.1 s))
