use Rattle.wtf8.proofs.Common.{◌∙◌, ◌∷◌, ap, sym, arith, units}
use Rattle.wtf8.proofs.lemmas.codec.Readings.{units-cons_one}
use Rattle.wtf8.proofs.lemmas.strings.Concatenation.{trail_begins}
use Rattle.wtf8.proofs.lemmas.strings.Editing.{after_trail}
use Rattle.wtf8.proofs.strings.view.Wtf8.split_initial_trail.Goals as goal

pub returns-in_default-clause-none : goal.returns-in_default-clause-none
returns-in_default-clause-none c t r trail e = grind (arith, trail_begins)

pub skip_bytes-requires : goal.skip_bytes-requires
skip_bytes-requires c =
    let first = c.in-Some.ensures.first in
    let rest = after_trail c.args.self.well_formed c.in-Some.trail first.0 c.in-Some.ensures.trail first.1 in
    record { within = rest.0; well_formed = rest.1.0 }

pub returns-clause-joined : goal.returns-clause-joined
returns-clause-joined c =
    let t = c.in-Some.trail in
    let first = c.in-Some.ensures.first in
    let rest = (after_trail c.args.self.well_formed t first.0 c.in-Some.ensures.trail first.1).1 in
    ap units first.1 ∙ (units-cons_one t first.0 (omega (arith, c.in-Some.ensures.trail))
    ∙ ap (λ r. t ∷ units r) (sym (c.skip_bytes.ensures.points rest.0 ∙ rest.1)))
