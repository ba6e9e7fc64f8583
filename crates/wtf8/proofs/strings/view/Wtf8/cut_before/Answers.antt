use Rattle.wtf8.proofs.Common.{◌≡◌, ◌∙◌, sym, arith}
use Rattle.wtf8.proofs.lemmas.strings.Positions.{points_before}
use Rattle.wtf8.proofs.lemmas.units.UnitCuts.{Undivided, pair_at_cut}
use Rattle.wtf8.proofs.lemmas.buffers.UnitEdits.{cuts_before_lead, cuts_before_none, cuts_before_pair, divided_after_mark, undivided_at_mark}
use Rattle.wtf8.proofs.strings.view.Wtf8.cut_before.Goals.{After-final_lead_surrogate}
use Rattle.wtf8.proofs.strings.view.Wtf8.cut_before.Goals as goal

pub read_lead-requires-clause-front : goal.read_lead-requires-clause-front
read_lead-requires-clause-front c =
    let h = c.args.self.well_formed in
    (pair_at_cut h (divided_after_mark h c.requires.mark c.requires.last c.if-mark-n.true).1 c.split_at.ensures.back).0

pub read_lead-requires-clause-least : goal.read_lead-requires-clause-least
read_lead-requires-clause-least c =
    let h = c.args.self.well_formed in
    (pair_at_cut h (divided_after_mark h c.requires.mark c.requires.last c.if-mark-n.true).1 c.split_at.ensures.back).2

pub returns-then-mark-n-clause-cut : goal.returns-then-mark-n-clause-cut
returns-then-mark-n-clause-cut c =
    let h = c.args.self.well_formed in
    let d = divided_after_mark h c.requires.mark c.requires.last c.if-mark-n.true in
    let p = pair_at_cut h d.1 c.split_at.ensures.back in
    (cuts_before_pair c.read_lead.result h.clean d.1 (omega (arith, c.read_lead.ensures p.0, p.1))).1

pub returns-then-mark-n-clause-lead : goal.returns-then-mark-n-clause-lead
returns-then-mark-n-clause-lead c =
    let h = c.args.self.well_formed in
    let d = divided_after_mark h c.requires.mark c.requires.last c.if-mark-n.true in
    let p = pair_at_cut h d.1 c.split_at.ensures.back in
    (cuts_before_pair c.read_lead.result h.clean d.1 (omega (arith, c.read_lead.ensures p.0, p.1))).0

cut : (c : After-final_lead_surrogate) → Undivided c.args.self.well_formed.points c.args.n c.args.mark.position
cut c = undivided_at_mark c.args.self.well_formed c.requires.mark (omega (arith, c.if-mark-n.false))

-- the code points before the mark
front : (c : After-final_lead_surrogate) → c.from_well_formed.result.well_formed.points ≡ (cut c).front
front c =
    let x = cut c in
    points_before c.args.self.well_formed c.from_well_formed.result.well_formed x.front x.back c.args.mark.position x.joined x.front_len
    (c.from_well_formed.ensures.bytes ∙ c.split_at.ensures.front)

pub overflow_sub-result : goal.overflow_sub-result
overflow_sub-result c =
    let here = (goal.at.overflow_sub-result c).After-final_lead_surrogate in
    (cuts_before_lead (cut here) c.in-Some.ensures.last.0 c.in-Some.lead (sym (front here) ∙ c.in-Some.ensures.last.1) c.in-Some.ensures.lead).0

pub returns-in-Some-clause-cut : goal.returns-in-Some-clause-cut
returns-in-Some-clause-cut c =
    let here = (goal.at.returns-in-Some-clause-cut c).After-final_lead_surrogate in
    (cuts_before_lead (cut here) c.in-Some.ensures.last.0 c.in-Some.lead (sym (front here) ∙ c.in-Some.ensures.last.1) c.in-Some.ensures.lead).1

pub returns-in-None-clause-cut : goal.returns-in-None-clause-cut
returns-in-None-clause-cut c =
    let here = (goal.at.returns-in-None-clause-cut c).After-final_lead_surrogate in
    cuts_before_none (cut here) (λ f l lead e. c.in-None.ensures.none f l lead (front here ∙ e))
