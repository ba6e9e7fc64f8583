use Rattle.wtf8.proofs.Common.{◌≡◌, ◌∙◌, ap, refl, nat_cmp, unread_units, view_units, YieldsList-from_first}
use Rattle.std.proofs.lemmas.Iterator.Search.{cmp_from_yields_List}
use Rattle.wtf8.proofs.comparing.unit_order.cmp_unitwise.Goals as goal

pub returns : goal.returns
returns c =
    let own = c.to_ill_formed_utf16 in
    cmp_from_yields_List (λ x y. y ≡ x) _ nat_cmp _ c.cmp.ensures.ran
    (YieldsList-from_first (λ x. x) unread_units (view_units c.args.own) own.ensures.units) (λ it e. YieldsList-from_first (λ x. x)
    unread_units (view_units c.args.others) (ap unread_units e ∙ c.to_ill_formed_utf16-2.ensures.units)) (λ x y. refl)
