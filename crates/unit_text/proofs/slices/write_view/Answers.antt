use Rattle.std.proofs.Common.{rules}
use Rattle.std.proofs.Common.{◌-◌, ◌∙◌, arith, ap, drop, length, length-drop, refl, sym, take, take_all}
use Rattle.wtf8.specs.View.{view_units}
use Rattle.unit_text.proofs.UnitLemmas.{WritesAt-part}
use Rattle.unit_text.proofs.slices.write_view.Goals as goal

pub returns-clause-units : goal.returns-clause-units
returns-clause-units c =
    let old = c.args.out.now in
    let ys = c.write_units.new.out in
    let v = view_units c.args.view in
    let written = c.write_units.ensures in
    WritesAt-part old ys v c.args.at (length old - c.args.at) refl (omega (arith, c.requires))
    (omega (arith, written.len, length-drop c.args.at old))
    (ap (λ n. take n ys) (sym written.count) ∙ written.units)
    (ap (λ n. drop n ys) (sym written.count) ∙ written.rest
    ∙ ap (drop c.write_units.result) (take_all (length old - c.args.at) (drop c.args.at old) (omega (arith, length-drop c.args.at old)))
    ∙ ap (λ n. drop n (drop c.args.at old)) written.count)

pub returns-clause-end : goal.returns-clause-end
returns-clause-end c = search rules
