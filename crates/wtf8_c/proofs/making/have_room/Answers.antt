use Rattle.std.proofs.Common.{ℕ, ◌*◌, ◌≤◌, List, length, ap, arith, All}
use Rattle.wtf8.specs.Appending.{FitWithin}
use Rattle.wtf8.specs.Unicode.{IsUnit}
use Rattle.wtf8.proofs.lemmas.codec.Readings.{lists_have_lengths}
use Rattle.wtf8.proofs.lemmas.strings.Concatenation.{one_form}
use Rattle.wtf8.proofs.lemmas.strings.PushedUnits.{are_units}
use Rattle.wtf8_c.proofs.making.have_room.Goals as goal

-- units fit a capacity of three bytes for each
three_each : (v : List ℕ) → All IsUnit v → (capacity : ℕ) → 3 * length v ≤ capacity → FitWithin v 0 capacity
three_each v u capacity h =
    let one = one_form v u in
    let most : length one.one ≤ 3 * length v =
    omega (arith, (lists_have_lengths one.has.points).units_most, ap length one.has.encoded, ap length one.has.reads.same_units) in
    record { whole = one.one; form = one.has; within = omega (arith, h, most) }

pub returns-then-units-capacity-clause-fits : goal.returns-then-units-capacity-clause-fits
returns-then-units-capacity-clause-fits c _ =
    three_each c.args.units.now (are_units _ c.type_inv.units) c.args.capacity (omega (arith, c.if-units-capacity.true))

pub returns-then-units-gt-ROOMY_UNITS-clause-fits : goal.returns-then-units-gt-ROOMY_UNITS-clause-fits
returns-then-units-gt-ROOMY_UNITS-clause-fits c is =
    let one = one_form c.args.units.now (are_units _ c.type_inv.units) in
    record { whole = one.one; form = one.has; within = grind (arith, c.encoded_len.ensures one.one one.has, is) }
