use Rattle.wtf8.proofs.Common.{false≢true, refl, ◌∷◌, ◌∙◌, ap, sym, append-nil, units}
use Rattle.wtf8.proofs.lemmas.strings.Positions.{points_before}
use Rattle.wtf8.proofs.lemmas.units.UnitCuts.{divides_none, divides_some, in_pair_at, pair_at_cut, undivided_at}
use Rattle.wtf8.proofs.strings.view.Wtf8.first_units.Goals as goal

pub returns-then-cut-n : goal.returns-then-cut-n
returns-then-cut-n c =
    let h = c.args.self.well_formed in
    let x = undivided_at h c.args.n c.cut_at-cut.result c.cut_at-cut.ensures.cursor c.if-cut-n.true in
    let front = points_before h c.slice_to-front.result.well_formed x.front x.back _ x.joined x.front_len c.slice_to-front.ensures.bytes in
    record {
      units = append-nil (units c.slice_to-front.result.well_formed.points) ∙ (ap units front ∙ sym x.kept);
      lead = (λ s. absurd (false≢true s), λ m. absurd (divides_none h.clean x m));
    }

pub read_lead-requires : goal.read_lead-requires
read_lead-requires c =
    let h = c.args.self.well_formed in
    let x = in_pair_at h c.args.n c.cut_at-cut.result c.cut_at-cut.ensures.cursor c.cut_at-cut.ensures.divided c.if-cut-n.false in
    let pair = pair_at_cut h x.divided c.split_at.ensures.back in record { front = pair.0; least = pair.2 }

pub returns : goal.returns
returns c =
    let h = c.args.self.well_formed in
    let d = (in_pair_at h c.args.n c.cut_at-cut.result c.cut_at-cut.ensures.cursor c.cut_at-cut.ensures.divided c.if-cut-n.false).divided in
    let pair = pair_at_cut h d c.split_at.ensures.back in
    let front =
    points_before h c.slice_to-front.result.well_formed d.front (_ ∷ d.rest) _ d.joined d.front_len c.slice_to-front.ensures.bytes in
    record { units = rw (front, c.read_lead.ensures pair.0, pair.1) (sym d.kept); lead = (λ s. divides_some h.clean d, λ m. refl) }
