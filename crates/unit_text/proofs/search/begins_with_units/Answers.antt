use Rattle.std.proofs.Common.{◌≡◌, ◌↔◌, ◌∙◌, ap, sym, subst, refl, List, ℕ, ◌++◌, length, take}
use Rattle.std.proofs.lemmas.Bool.{false≢true}
use Rattle.std.specs.Cmp.Lexicographic.{bytes_decides}
use Rattle.wtf8.specs.View.{view_units}
use Rattle.wtf8.proofs.lemmas.comparing.Parts.{begins_equal, begins_unequal}
use Rattle.unit_text.proofs.search.begins_with_units.Goals as goal

pub returns-then-eq : goal.returns-then-eq
returns-then-eq c =
    let front = c.args.front.now in
    let back = view_units c.args.back in
    let units = c.args.units.now in
    let n = c.min.result in
    let same : take n front ≡ take n units =
    ap (λ k. take k front) (sym c.split_at.ensures.front_len) ∙ (bytes_decides _ _).0 (sym c.eq.ensures ∙ c.if-eq.true)
    ∙ c.split_at.ensures.front in
    let on = begins_equal front back (front ++ back) units n refl c.min.ensures same in
    let next = subst (λ (l : List ℕ). (take (length units) (front ++ back) ≡ units) ↔ (take (length l) back ≡ l))
    (sym c.split_at.ensures.back) on in
    (λ t. next.1 (c.starts_with_units.ensures.0 t), λ b. c.starts_with_units.ensures.1 (next.0 b))

pub returns-else-eq : goal.returns-else-eq
returns-else-eq c =
    let front = c.args.front.now in
    let back = view_units c.args.back in
    let units = c.args.units.now in
    let n = c.min.result in
    let apart : ¬ (take n front ≡ take n units) =
    λ e. false≢true (sym c.if-eq.false ∙ (c.eq.ensures ∙ (bytes_decides _ _).1
    (ap (λ k. take k front) c.split_at.ensures.front_len ∙ e ∙ sym c.split_at.ensures.front))) in (
      λ t. absurd (false≢true (sym c.if-eq.false ∙ t)),
      λ b. absurd (begins_unequal front back (front ++ back) units n refl c.min.ensures apart b),
    )
