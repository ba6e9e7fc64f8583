use Rattle.std.proofs.Common.{◌+◌, ◌<◌, inl, inr, length, min, get_or, get_or-set_same, get_or-set_other, length-set, set, sym, subst, ◌∙◌, arith, drop, take}
use Rattle.std.proofs.lemmas.Bool.{cases_eq}
use Rattle.unit_text.specs.private.Borders.{IsLongestFront}
use Rattle.unit_text.proofs.BorderLemmas.{border_known, border_shorter, next_border}
use Rattle.unit_text.proofs.search.borders_of.Goals.{After-from-border}
use Rattle.unit_text.proofs.search.borders_of.Goals as goal

-- the entry before
before : (g : _) (c : After-from-border g) → IsLongestFront (drop 1 (take c.loop-len.len c.args.units.now)) c.args.units.now c.from-border.result
before g c =
    let len = c.loop-len.len in
    border_known c.args.units.now c.loop-len.borders (min len (length c.args.units.now)) len c.from-border.result
    c.loop-len.invariant.known (omega arith) (omega arith) c.from-border.ensures

pub extended-requires-clause-known : goal.extended-requires-clause-known
extended-requires-clause-known g c n below =
    let b = before g (goal.at.extended-requires-clause-known g c).After-from-border in
    let shorter = border_shorter c.args.units.now c.loop-len.len c.from-border.result (omega arith) b in
    c.loop-len.invariant.known n (omega (arith, below, shorter))

pub loop-len-preserved : goal.loop-len-preserved
loop-len-preserved g c =
    let units = c.args.units.now in
    let old = c.loop-len.borders in
    let len = c.loop-len.len in
    let r = c.extended.result in
    let within : len < length old = omega (arith, c.loop-len.invariant.len, c.requires.within) in
    let new = next_border units len c.from-border.result r (omega arith) (omega arith)
    (before g (goal.at.loop-len-preserved g c).After-from-border) c.extended.ensures in
    record {
      len = length-set old len r ∙ c.loop-len.invariant.len;
      known = λ n below. elim (cases_eq n len) [
        | inl same ↦
            subst (λ k. IsLongestFront (drop 1 (take (k + 1) units)) units (get_or (set old len r) k 0)) (sym same)
            (subst (IsLongestFront (drop 1 (take (len + 1) units)) units) (sym (get_or-set_same old len r 0 within)) new)
        | inr ne ↦
            subst (IsLongestFront (drop 1 (take (n + 1) units)) units) (sym (get_or-set_other old len n r 0 ne))
            (c.loop-len.invariant.known n (omega (arith, below, ne)))
      ];
    }
