use Rattle.wtf8.proofs.Common.{◌≡◌, ◌↔◌, ◌∙◌, ap, arith, sym, subst, length, take, min, not, false≢true, true≢false, length-take-le}
use Rattle.wtf8.proofs.Common.{List, ℕ, take-take, bytes_decides, view_units, cases_Bool, inl, inr, nat_eq, pointwise}
use Rattle.wtf8.proofs.lemmas.comparing.Parts.{begins_equal, begins_unequal}
use Rattle.wtf8.proofs.comparing.with_units.starts_by_parts.Goals.{After-ne}
use Rattle.wtf8.proofs.comparing.with_units.starts_by_parts.Goals as goal

-- the parts that are compared are the first `n` units of both, where the first of them ends
least : (g : _) (c : After-ne g) → c.min.result ≡ min (length (take c.decode_part-count.result.0 c.decode_part-count.new.block)) (length c.loop-rest.others.now)
least g c =
    let part = c.decode_part-count in
    c.min.ensures ∙ ap (λ k. min k (length c.loop-rest.others.now)) (sym (length-take-le part.result.0 part.new.block part.ensures.within))

own_front : (g : _) (c : After-ne g) → take (length c.split_at.result.0.now) c.decode_part-count.new.block
    ≡ take c.min.result (take c.decode_part-count.result.0 c.decode_part-count.new.block)
own_front g c =
    let part = c.decode_part-count in
    ap (λ k. take k part.new.block) c.split_at.ensures.front_len
    ∙ sym (take-take c.min.result part.result.0 part.new.block (omega (arith, c.min.ensures)))

pub returns-then-ne : goal.returns-then-ne
returns-then-ne g c =
    let part = c.decode_part-count in
    let own = take part.result.0 part.new.block in
    let others = c.loop-rest.others.now in
    let after = (goal.at.returns-then-ne g c).After-ne in
    let apart : ¬ (take c.min.result own ≡ take c.min.result others) =
    λ e. false≢true (sym (c.ne.ensures ∙ ap not ((bytes_decides _ _).1 (own_front g after ∙ e ∙ sym c.split_at.ensures.front)))
    ∙ c.if-ne.true) in
    let not_found = begins_unequal own (view_units part.result.1) (view_units c.loop-rest.rest) others c.min.result part.ensures.units
    (least g after) apart in
    (λ t. absurd (false≢true t), λ b. absurd (not_found (c.loop-rest.invariant.decides.0 b)))

pub loop-rest-preserved : goal.loop-rest-preserved
loop-rest-preserved g c =
    let part = c.decode_part-count in
    let own = take part.result.0 part.new.block in
    let others = c.loop-rest.others.now in
    let after = (goal.at.loop-rest-preserved g c).After-ne in
    let equal : take (length c.split_at.result.0.now) part.new.block ≡ c.split_at.result.0.now = elim (cases_Bool (pointwise nat_eq (take (length c.split_at.result.0.now) part.new.block) c.split_at.result.0.now)) [
      | inl t ↦ (bytes_decides _ _).0 t
      | inr f ↦ absurd (true≢false (sym (c.ne.ensures ∙ ap not f) ∙ c.if-ne.false))
    ] in
    let same = sym (own_front g after) ∙ equal ∙ c.split_at.ensures.front in
    let on = begins_equal own (view_units part.result.1) (view_units c.loop-rest.rest) others c.min.result part.ensures.units
    (least g after) same in
    let back = λ (l : List ℕ). take (length l) (view_units part.result.1) ≡ l in
    let next = subst (λ l. (take (length others) (view_units c.loop-rest.rest) ≡ others) ↔ back l) (sym c.split_at.ensures.back) on in
    record {
      block = omega (arith, part.auto.block, c.loop-rest.invariant.block);
      decides = (λ b. next.0 (c.loop-rest.invariant.decides.0 b), λ b. c.loop-rest.invariant.decides.1 (next.1 b));
    }
