use Rattle.std.proofs.Common.{◌≡◌, Decides, refl, sym, ap, subst, ◌∙◌}
use Rattle.std.proofs.lemmas.Iterator.Adapters.{YieldsList-from_once}
use Rattle.std.proofs.lemmas.Iterator.Consumers.{YieldsList-at, YieldsList-from_chain, YieldsList-from_first}
use Rattle.std.proofs.lemmas.Iterator.Search.{cmp_from_yields_List}
use Rattle.std.proofs.lemmas.Map.Text.{is_eq-slice_cmp}
use Rattle.std.proofs.lemmas.Slice.Eq.{bytes_eq-Decides}
use Rattle.std.specs.Ordering.{nat_cmp, is_eq}
use Rattle.wtf8.specs.UnitPosition.{units_of_slice}
use Rattle.wtf8.specs.Units.{unread_units}
use Rattle.wtf8.specs.View.{view_units}
use Rattle.unit_text.proofs.slices.has_units_one_by_one.Goals as goal

pub returns : goal.returns
returns c =
    let slice = c.args.slice in
    let own = units_of_slice slice in
    let others = view_units c.args.other in
    let whole = YieldsList-from_first (λ x. x) unread_units (view_units slice.whole) c.to_ill_formed_utf16.ensures.units in
    let lead = YieldsList-from_once slice.lead c.chain-rest.ensures.second.0 in
    let rest = YieldsList-from_chain
    (YieldsList-at c.chain-rest.ensures.first whole) lead c.chain-rest.ensures.first_done c.chain-rest.ensures.second_done in
    let trail = YieldsList-from_once slice.trail c.into_iter.ensures.into_iter_gives.0 in
    let all = YieldsList-from_chain (YieldsList-at c.chain-units.ensures.first trail) (YieldsList-at c.chain-units.ensures.second rest)
    c.chain-units.ensures.first_done c.chain-units.ensures.second_done in
    let compared = cmp_from_yields_List (λ x y. y ≡ x) _ nat_cmp c.cmp.result c.cmp.ensures.ran all
    (λ it e. YieldsList-from_first (λ x. x) unread_units others (ap unread_units e ∙ c.to_ill_formed_utf16-2.ensures.units))
    (λ x y. refl) in
    let same = c.is_eq.ensures ∙ (ap is_eq compared ∙ is_eq-slice_cmp own others) in
    subst (λ b. Decides b (own ≡ others)) (sym same) (bytes_eq-Decides own others)
