use Rattle.std.specs.Prelude.{⊤}
use Rattle.std.proofs.Common.{◌≡◌, rules}
use Rattle.std.proofs.lemmas.Option.{MatchOption-at_none, MatchOption-at_some}
use Rattle.wtf8.specs.View.{view_units}
use Rattle.wtf8_uses.proofs.PartLemmas.{BeginsWith-first, false_from_iff, not_BeginsWith-one_part, true_from_iff}
use Rattle.wtf8_uses.proofs.file_names.begins_with.Goals as goal

pub returns-in_default : goal.returns-in_default
returns-in_default c =
    let last = MatchOption-at_none _ (λ _. ⊤) c.in_default.is c.first_component-in-loop-after.ensures.last in
    let same : view_units c.first_component.result.0 ≡ view_units c.first_component-in-loop-after.result.0 = search rules in
    true_from_iff c.loop-after.invariant
    (BeginsWith-first _ _ c.first_component.ensures.first.0 _ _ c.first_component.ensures.first.1 last same)

pub returns-in_default-after : goal.returns-in_default-after
returns-in_default-after c =
    let last = MatchOption-at_none _ (λ _. ⊤) c.in_default-after.is c.first_component.ensures.last in
    let more = MatchOption-at_some ⊤ _ _ c.in-Some.is c.first_component-in-loop-after.ensures.more in
    false_from_iff c.loop-after.invariant (not_BeginsWith-one_part _ _ (view_units c.in-Some.front_next) _ _ last more)
