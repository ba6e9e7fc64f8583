use Rattle.std.proofs.Common.{◌≡◌, Decides, map, refl, sym, ap, subst, ◌∙◌, rules}
use Rattle.std.proofs.lemmas.Iterator.{YieldsList-from_map}
use Rattle.std.proofs.lemmas.Iterator.Consumers.{YieldsList-at, YieldsList-from_first}
use Rattle.std.proofs.lemmas.Iterator.Search.{cmp_from_yields_List}
use Rattle.std.proofs.lemmas.Map.Text.{is_eq-slice_cmp}
use Rattle.std.proofs.lemmas.Slice.Eq.{bytes_eq-Decides}
use Rattle.std.specs.Char.{to_ascii_lowercase}
use Rattle.std.specs.Iterator.Adapters.{map_source, map_callee}
use Rattle.std.specs.Ordering.{nat_cmp, is_eq}
use Rattle.wtf8.specs.Units.{unread_units}
use Rattle.wtf8.specs.View.{view_units}
use Rattle.wtf8_uses.proofs.ascii_case.eq_ignore_ascii_case.Goals as goal

pub returns : goal.returns
returns c =
    let first = map to_ascii_lowercase (view_units c.args.text) in
    let second = map to_ascii_lowercase (view_units c.args.other) in
    let units = YieldsList-from_first (λ x. x) unread_units (view_units c.args.text) c.to_ill_formed_utf16.ensures.units in
    let others = YieldsList-from_first (λ x. x) unread_units (view_units c.args.other) c.to_ill_formed_utf16-2.ensures.units in
    let compared = cmp_from_yields_List (λ x y. y ≡ x) _ nat_cmp c.cmp.result c.cmp.ensures.ran
    (YieldsList-from_map _ to_ascii_lowercase (YieldsList-at c.map-units.ensures.source units) c.map-units.ensures.closure
    (λ x r q k. search rules))
    (λ it e. YieldsList-from_map _ to_ascii_lowercase (YieldsList-at (ap map_source e ∙ c.map-others.ensures.source) others)
    (ap map_callee e ∙ c.map-others.ensures.closure) (λ x r q k. search rules)) (λ x y. refl) in
    let same = c.is_eq.ensures ∙ (ap is_eq compared ∙ is_eq-slice_cmp first second) in
    subst (λ b. Decides b (first ≡ second)) (sym same) (bytes_eq-Decides first second)
