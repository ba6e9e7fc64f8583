use Rattle.std.proofs.Common.{◌≢◌, ◌<◌, get_or, length-take-le, take, subst, arith}
use Rattle.unit_text.proofs.BorderLemmas.{IsCandidate, all_is_candidate, border_known, border_shorter, front_len, longest_more, longest_none, next_candidate}
use Rattle.unit_text.proofs.search.extended.Goals as goal

pub loop-border-init : goal.loop-border-init
loop-border-init c = all_is_candidate c.args.units.now c.args.matched c.args.unit (omega (arith, c.requires.within))

pub bounds-units-border : goal.bounds-units-border
bounds-units-border c =
    let units = c.args.units.now in
    let within = c.requires.within in
    omega (arith, within, front_len units (take c.args.matched units) c.loop-border.border c.loop-border.invariant.is_end, length-take-le c.args.matched units (omega (arith, within)))

pub bounds-borders-border : goal.bounds-borders-border
bounds-borders-border c =
    let units = c.args.units.now in
    let within = c.requires.within in
    omega (arith, within, c.requires.room, c.if-border-eq0.false, front_len units (take c.args.matched units) c.loop-border.border c.loop-border.invariant.is_end, length-take-le c.args.matched units (omega (arith, within)))

pub loop-border-smaller : goal.loop-border-smaller
loop-border-smaller c =
    let units = c.args.units.now in
    let within = c.requires.within in
    let b = c.loop-border.border in
    let some : 0 < b = omega (arith, c.if-border-eq0.false) in
    border_shorter units b c.from-border.result some
    (border_known units c.args.borders.now c.args.matched b c.from-border.result c.requires.known some
    (omega (arith, within, front_len units (take c.args.matched units) b c.loop-border.invariant.is_end, length-take-le c.args.matched units (omega (arith, within))))
    c.from-border.ensures)

pub loop-border-preserved : goal.loop-border-preserved
loop-border-preserved c =
    let units = c.args.units.now in
    let within = c.requires.within in
    let b = c.loop-border.border in
    let some : 0 < b = omega (arith, c.if-border-eq0.false) in
    next_candidate units (take c.args.matched units) c.args.unit b c.from-border.result c.loop-border.invariant c.loop-border-test.true
    (border_known units c.args.borders.now c.args.matched b c.from-border.result c.requires.known some
    (omega (arith, within, front_len units (take c.args.matched units) b c.loop-border.invariant.is_end, length-take-le c.args.matched units (omega (arith, within))))
    c.from-border.ensures)

pub returns-then-border-eq0 : goal.returns-then-border-eq0
returns-then-border-eq0 c =
    let units = c.args.units.now in
    let first = take c.args.matched units in
    longest_none units first c.args.unit (subst (IsCandidate units first c.args.unit) c.if-border-eq0.true c.loop-border.invariant)
    (subst (λ b. get_or units b 0 ≢ c.args.unit) c.if-border-eq0.true c.loop-border-test.true)

pub returns : goal.returns
returns c =
    let units = c.args.units.now in
    let within = c.requires.within in
    let b = c.loop-border.border in
    longest_more units (take c.args.matched units) c.args.unit b c.loop-border.invariant
    (omega (arith, within, front_len units (take c.args.matched units) b c.loop-border.invariant.is_end, length-take-le c.args.matched units (omega (arith, within))))
    c.loop-border-test.false
