use Rattle.wtf8.proofs.Common.{◌≡◌, ◌++◌, ◌∷◌, IfSome, refl, subst, sym, lit≤, lit<, bytes, lossy_points, view_points}
use Rattle.wtf8.proofs.lemmas.formatting.DebugTexts.{Continues-write, written_as}
use Rattle.wtf8.proofs.lemmas.codec.Encoding.{encoding_three}
use Rattle.wtf8.proofs.formatting.display_text.write_lossy.Goals as goal

pub loop-next-preserved : goal.loop-next-preserved
loop-next-preserved g c = λ flush.
    let before = c.loop-next.invariant flush in
    let parts = subst (λ r. IfSome r (λ next. bytes (lossy_points (view_points c.loop-next.rest)) ≡ c.split_at_surrogate.result.0.now
    ++ bytes (0xFFFD ∷ lossy_points (view_points next)))) c.in-Some.is c.split_at_surrogate.ensures.some in
    let part = Continues-write before (c.in_ok-write_str.ensures.styled before.flush refl) parts in
    Continues-write part
    (written_as (sym (encoding_three 0xFFFD (lit≤ tt) (lit< tt))) (c.in_ok-write_str-2.ensures.styled part.flush refl)) refl
