use Rattle.std.proofs.Common.{inl, inr, rules, ◌≤◌, ◌++◌, drop, ap, arith, length}
use Rattle.wtf8.specs.UnitString.{UnitString}
use Rattle.unit_text.proofs.indexed.IndexedBuf.replace_units.Goals as goal

pub mark_after-to-requires : goal.mark_after-to-requires
mark_after-to-requires g c = record {
  mark = c.mark_at-from.ensures.mark;
  order = elim c.mark_at-from.ensures.last [
    | inl same ↦ omega (arith, same, c.requires.order)
    | inr less ↦ omega (arith, less.0, c.requires.order)
  ];
  within = search rules;
}

pub count_replaced-requires-clause-marks : goal.count_replaced-requires-clause-marks
count_replaced-requires-clause-marks g c =
    let old = c.self.inside.text in
    let within : c.args.begin ≤ length old.units =
    omega (arith, c.requires.order, c.requires.within, ap (λ (s : UnitString). length s.units) c.self.view_is) in
    (old, c.args.units.now ++ drop c.args.end old.units, (within, c.in_ok-replace_units_at.ensures.ok, c.self.invariant.1))
