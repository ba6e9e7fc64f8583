use Rattle.std.proofs.Common.{◌≡◌, ◌+◌, ◌-◌, ◌∙◌, ap, arith, drop, sym, take}
use Rattle.std.proofs.lemmas.List.{drop-take}
use Rattle.unit_text.proofs.indexed.IndexedBuf.slice_units.Goals as goal

pub returns-clause-units : goal.returns-clause-units
returns-clause-units g c =
    let units = c.args.self.now.units in
    let begin = c.args.begin in
    let len = c.args.end - begin in
    let whole : begin + len ≡ c.args.end = omega (arith, c.requires.order) in
    c.part.ensures.units ∙ sym (ap (λ n. drop begin (take n units)) (sym whole) ∙ drop-take begin len units)

pub returns-clause-lead : goal.returns-clause-lead
returns-clause-lead g c some =
    let whole : c.args.begin + (c.args.end - c.args.begin) ≡ c.args.end = omega (arith, c.requires.order) in
    rw whole at (c.part.ensures.lead (omega (arith, some)))
