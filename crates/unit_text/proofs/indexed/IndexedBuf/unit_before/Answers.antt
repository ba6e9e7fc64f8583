use Rattle.std.proofs.Common.{◌≡◌, sym, ap, ◌∙◌, arith, rules, length-take-le, length}
use Rattle.wtf8.specs.Position.{IsBoundary, IsFront}
use Rattle.wtf8.specs.View.{view_units, view_form}
use Rattle.unit_text.proofs.indexed.IndexedBuf.unit_before.Goals as goal

pub returns-clause-before : goal.returns-clause-before
returns-clause-before g c =
    let view = c.marked-marked.result.text.view in
    let same = c.marked-marked.ensures.units in
    let mark = c.mark_before-mark.result in
    let found = c.mark_before-mark.ensures in
    record {
      boundary = mark.position;
      within = omega (arith, found.mark.units_within, ap length same);
      front = search rules;
      at_or_before = omega (arith, found.before, c.min.ensures);
      last = λ m b l.
          let own : IsBoundary (view_units view) m = rw same b in
          let inside = c.law_positions.ensures.beyond view.bytes.now (view_units view) m (view_form view) own in
          found.last m own (omega (arith, l, inside, c.len.ensures.bytes, c.min.ensures));
    }

pub returns-clause-exact : goal.returns-clause-exact
returns-clause-exact g c = λ v front.
    let view = c.marked-marked.result.text.view in
    let mark = c.mark_before-mark.result in
    let found = c.mark_before-mark.ensures in
    let own : IsFront (view_units view) c.args.position v = rw c.marked-marked.ensures.units front in
    let boundary : IsBoundary (view_units view) c.args.position = search rules in
    let inside = c.law_positions.ensures.beyond view.bytes.now (view_units view) c.args.position (view_form view) boundary in
    let after = found.last c.args.position boundary (omega (arith, inside, c.len.ensures.bytes, c.min.ensures)) in
    let here : c.args.position ≡ mark.position = omega (arith, after, found.before, c.min.ensures) in
    let at_mark : IsFront (view_units view) mark.position v = rw (← here) own in
    sym (ap length (c.law_mark.ensures.front v at_mark) ∙ length-take-le mark.units (view_units view) found.mark.units_within)
