use Rattle.wtf8.proofs.Common.{false≢true, refl, ◌∙◌, [], ◌∷◌, ◌++◌, ap, sym, units}
use Rattle.wtf8.proofs.lemmas.strings.Positions.{boundary_of, points_after}
use Rattle.wtf8.proofs.lemmas.units.UnitCuts.{divides_none, divides_some, in_pair_at, trail_in_pair, undivided_at}
use Rattle.wtf8.proofs.strings.view.Wtf8.units_after.Goals as goal

pub returns-then-cut-n : goal.returns-then-cut-n
returns-then-cut-n c =
    let h = c.args.self.well_formed in
    let x = undivided_at h c.args.n c.cut_at-cut.result c.cut_at-cut.ensures.cursor c.if-cut-n.true in
    let back = points_after h c.slice_from.result.well_formed x.front x.back _ x.joined x.front_len c.slice_from.ensures.bytes in
    record { units = ap units back ∙ sym x.after; trail = (λ s. absurd (false≢true s), λ m. absurd (divides_none h.clean x m)) }

pub slice_from-requires-2 : goal.slice_from-requires-2
slice_from-requires-2 c =
    let h = c.args.self.well_formed in
    let x = in_pair_at h c.args.n c.cut_at-cut.result c.cut_at-cut.ensures.cursor c.cut_at-cut.ensures.divided c.if-cut-n.false in
    let d = x.divided in boundary_of h (d.front ++ x.point ∷ []) d.rest _ d.pushed d.pushed_len

pub returns : goal.returns
returns c =
    let h = c.args.self.well_formed in
    let x = in_pair_at h c.args.n c.cut_at-cut.result c.cut_at-cut.ensures.cursor c.cut_at-cut.ensures.divided c.if-cut-n.false in
    let d = x.divided in
    let rest = points_after h c.slice_from-2.result.well_formed (d.front ++ x.point ∷ []) d.rest _ d.pushed d.pushed_len
    c.slice_from-2.ensures.bytes in
    record {
      units = rw (c.read_trail-trail.ensures, trail_in_pair h d c.split_at.ensures.back, rest) (sym d.after);
      trail = (λ s. divides_some h.clean d, λ m. refl);
    }
