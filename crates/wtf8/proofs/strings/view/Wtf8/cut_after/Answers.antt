use Rattle.wtf8.proofs.Common.{◌≡◌, ◌∙◌, ap, sym, arith, ℕ, List, length, length-drop, ◌+◌, ◌≤◌, IsWellFormed}
use Rattle.wtf8.proofs.lemmas.strings.Positions.{cut_by, points_after}
use Rattle.wtf8.proofs.lemmas.units.UnitCuts.{Divided, Undivided, trail_in_pair}
use Rattle.wtf8.proofs.lemmas.buffers.UnitEdits.{cuts_after_none, cuts_after_pair, cuts_after_trail, divided_after_mark, undivided_at_mark}
use Rattle.wtf8.proofs.strings.view.Wtf8.cut_after.Goals.{After-initial_trail_surrogate}
use Rattle.wtf8.proofs.strings.view.Wtf8.cut_after.Goals as goal

-- the bytes of the pair are there
long : {w : List ℕ} (h : IsWellFormed w) {n k p : ℕ} → Divided h.points n k p → k + 4 ≤ length w
long h d = omega (arith, d.long, ap length h.encoded)

pub split_at-requires : goal.split_at-requires
split_at-requires c =
    let h = c.args.self.well_formed in
    omega (arith, long h (divided_after_mark h c.requires.mark c.requires.last c.if-mark-n.true).1)

pub read_trail-requires : goal.read_trail-requires
read_trail-requires c =
    let h = c.args.self.well_formed in
    omega (
      arith,
      long h (divided_after_mark h c.requires.mark c.requires.last c.if-mark-n.true).1,
      ap length c.split_at.ensures.back,
      length-drop {A = ℕ},
    )

pub returns-then-mark-n-clause-cut : goal.returns-then-mark-n-clause-cut
returns-then-mark-n-clause-cut c =
    let h = c.args.self.well_formed in
    let d = (divided_after_mark h c.requires.mark c.requires.last c.if-mark-n.true).1 in
    (cuts_after_pair c.read_trail.result h.clean d (c.read_trail.ensures ∙ trail_in_pair h d c.split_at.ensures.back)).1

pub returns-then-mark-n-clause-trail : goal.returns-then-mark-n-clause-trail
returns-then-mark-n-clause-trail c = grind (arith, divided_after_mark, cuts_after_pair, trail_in_pair)

pub returns-then-mark-n-clause-within : goal.returns-then-mark-n-clause-within
returns-then-mark-n-clause-within c =
    let h = c.args.self.well_formed in
    long h (divided_after_mark h c.requires.mark c.requires.last c.if-mark-n.true).1

cut : (c : After-initial_trail_surrogate) → Undivided c.args.self.well_formed.points c.args.n c.args.mark.position
cut c = undivided_at_mark c.args.self.well_formed c.requires.mark (omega (arith, c.if-mark-n.false))

-- the code points after the mark
back : (c : After-initial_trail_surrogate) → c.slice_from_mark.result.well_formed.points ≡ (cut c).back
back c =
    let x = cut c in
    points_after c.args.self.well_formed c.slice_from_mark.result.well_formed x.front x.back c.args.mark.position x.joined x.front_len
    c.slice_from_mark.ensures.bytes

pub returns-in-Some-clause-cut : goal.returns-in-Some-clause-cut
returns-in-Some-clause-cut c =
    let here = (goal.at.returns-in-Some-clause-cut c).After-initial_trail_surrogate in
    let first = c.in-Some.ensures.first in
    cuts_after_trail (cut here) c.in-Some.trail first.0 (sym (back here) ∙ first.1) c.in-Some.ensures.trail

pub returns-in-Some-clause-within : goal.returns-in-Some-clause-within
returns-in-Some-clause-within c =
    let here = (goal.at.returns-in-Some-clause-within c).After-initial_trail_surrogate in
    let first = c.in-Some.ensures.first in
    let x = cuts_after_trail (cut here) c.in-Some.trail first.0 (sym (back here) ∙ first.1) c.in-Some.ensures.trail in
    (cut_by c.args.self.well_formed x.front x.back (c.args.mark.position + 3) x.joined x.front_len).within

pub returns-in-None-clause-cut : goal.returns-in-None-clause-cut
returns-in-None-clause-cut c =
    let here = (goal.at.returns-in-None-clause-cut c).After-initial_trail_surrogate in
    cuts_after_none (cut here) c.args.self.well_formed.clean (λ t r trail e. c.in-None.ensures.none t r trail (back here ∙ e))
