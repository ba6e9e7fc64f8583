use Rattle.std.proofs.Common.{◌≡◌, ℕ, ◌+◌, cond, Some, ◌++◌, [], ◌∷◌, arith, rules, length, refl, ap, sym, subst, ◌∙◌}
use Rattle.std.proofs.lemmas.List.{length-map}
use Rattle.std.specs.HashMap.{get}
use Rattle.std.specs.Prelude.{unwrap_or, nat_eq}
use Rattle.wtf8.specs.View.{view_units}
use Rattle.wtf8_uses.specs.Numbered.{units_of_strings}
use Rattle.wtf8_uses.proofs.Numbering.{AreNumbered-push, AreNumbered-equal_lists, units_of_strings-push}
use Rattle.wtf8_uses.proofs.interner.Interner.add.Goals as goal

pub invariant_of-self-inside-2 : goal.invariant_of-self-inside-2
invariant_of-self-inside-2 c =
    let i = c.self.inside in
    let old = AreNumbered-equal_lists i.numbered refl c.self.view_is in
    let count : c.len-number.result ≡ length c.args.self.now =
    omega (arith, c.in_ok-reserve.ensures.len, i.strings.ok.0, length-map i.strings.items (λ s. s.units), ap length c.self.view_is) in
    let nexts : c.push_reserved-2.new.self.items ≡ i.nexts.items ++ unwrap_or (get nat_eq i.heads c.args.hash) 0 ∷ [] = search rules in
    let strings : units_of_strings c.push_reserved.new.self.items ≡ c.args.self.now ++ view_units c.args.string ∷ [] =
    units_of_strings-push _ _ _ _ c.push_reserved.ensures.items c.in_ok-reserve.ensures.items c.self.view_is
    (c.in_ok-push_wtf8.ensures.ok ∙ ap (λ u. u ++ view_units c.args.string) c.new-copy.ensures.units) in
    let next = AreNumbered-push c.args.self.now
    (view_units c.args.string) i.heads c.insert.new.self i.nexts.items c.args.hash c.requires.hash old c.requires.new
    (subst (λ j. (q : ℕ) → get nat_eq c.insert.new.self q ≡ cond (nat_eq c.args.hash q) (Some (j + 1)) (get nat_eq i.heads q)) count
    c.in_ok-insert.ensures.updates.0) in
    (AreNumbered-equal_lists next (sym nexts) (sym strings), tt)
