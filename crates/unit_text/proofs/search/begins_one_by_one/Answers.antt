use Rattle.std.proofs.Common.{◌≡◌, ◌+◌, ◌++◌, Decides, refl, sym, ap, subst, ◌∙◌, length, length-append, take, arith}
use Rattle.std.proofs.lemmas.Iterator.{YieldsList-from_slice, YieldsList-from_take}
use Rattle.std.proofs.lemmas.Iterator.Consumers.{YieldsList-at, YieldsList-from_chain, YieldsList-from_copied, YieldsList-from_first}
use Rattle.std.proofs.lemmas.Iterator.Search.{cmp_from_yields_List}
use Rattle.std.proofs.lemmas.Map.Text.{is_eq-slice_cmp}
use Rattle.std.proofs.lemmas.Slice.Eq.{bytes_eq-Decides}
use Rattle.std.specs.Ordering.{nat_cmp, is_eq}
use Rattle.wtf8.specs.Units.{unread_units}
use Rattle.wtf8.specs.View.{view_units}
use Rattle.unit_text.specs.private.Search.{pattern_units}
use Rattle.unit_text.proofs.search.begins_one_by_one.Goals as goal

pub returns : goal.returns
returns c =
    let pattern = c.args.pattern in
    let text = c.args.front.now ++ view_units c.args.back in
    let n = length (pattern_units pattern) in
    let front = YieldsList-from_copied (YieldsList-at c.copied.ensures.source (YieldsList-from_slice c.args.front.now c.iter.ensures.rest)) in
    let back = YieldsList-from_first (λ x. x) unread_units (view_units c.args.back) c.to_ill_formed_utf16.ensures.units in
    let own = YieldsList-from_chain (YieldsList-at c.chain-own.ensures.first front) (YieldsList-at c.chain-own.ensures.second back)
    c.chain-own.ensures.first_done c.chain-own.ensures.second_done in
    let count : pattern.count + length pattern.units.now ≡ n = omega (arith, length-append pattern.units.now (view_units pattern.after), c.requires.count) in
    let begun = YieldsList-from_take n (YieldsList-at c.take.ensures.source own) (c.take.ensures.count ∙ omega (arith, count)) in
    let first = YieldsList-from_copied (YieldsList-at c.copied-first.ensures.source (YieldsList-from_slice pattern.units.now c.iter-2.ensures.rest)) in
    let after = YieldsList-from_first (λ x. x) unread_units (view_units pattern.after) c.to_ill_formed_utf16-2.ensures.units in
    let others = YieldsList-from_chain (YieldsList-at c.chain-others.ensures.first first) (YieldsList-at c.chain-others.ensures.second after)
    c.chain-others.ensures.first_done c.chain-others.ensures.second_done in
    let compared = cmp_from_yields_List (λ x y. y ≡ x) _ nat_cmp c.cmp.result c.cmp.ensures.ran begun
    (λ it e. YieldsList-at e others) (λ x y. refl) in
    let same = c.is_eq.ensures ∙ (ap is_eq compared ∙ is_eq-slice_cmp (take n text) (pattern_units pattern)) in
    subst (λ b. Decides b (take n text ≡ pattern_units pattern)) (sym same) (bytes_eq-Decides (take n text) (pattern_units pattern))
