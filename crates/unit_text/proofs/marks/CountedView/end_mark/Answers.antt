use Rattle.std.proofs.Common.{[], ◌≤◌, arith, length, refl, take_all}
use Rattle.std.proofs.lemmas.List.{drop_all}
use Rattle.wtf8.specs.View.{view_form, view_units}
use Rattle.unit_text.proofs.marks.CountedView.end_mark.Goals as goal

pub returns-clause-mark : goal.returns-clause-mark
returns-clause-mark c =
    let view = c.args.self.now.view in
    let w = view.bytes.now in
    let u = view_units view in
    let len = c.len.result in
    let count = c.args.self.now.count in
    let all : length w ≤ len = omega (arith, c.len.ensures.bytes) in
    let counted : length u ≤ count = omega (arith, c.args.self.now.counted) in
    record {
      position_within = omega (arith, c.len.ensures.bytes);
      units_within = omega (arith, c.args.self.now.counted);
      before = rw (take_all len w all) (rw (take_all count u counted) (view_form view));
      after = rw (drop_all len w all)
          (rw (drop_all count u counted) (record { points = []; reads = record { clean = tt; same_units = refl }; encoded = refl }));
    }
