use Rattle.std.proofs.Common.{◌+◌, ◌*◌, ◌<◌, length, length-append, ap, arith}
use Rattle.wtf8.specs.View.{view_units}
use Rattle.wtf8.specs.declared.units.marks.UnitMark.{UnitMark}
use Rattle.unit_text.proofs.MarkLemmas.{IsKept-mark_at, AreKept-push}
use Rattle.unit_text.proofs.marks.add_marks.Goals as goal

pub loop-number-preserved : goal.loop-number-preserved
loop-number-preserved g c =
    let bytes = c.args.text.view.bytes.now in
    let units = view_units c.args.text.view in
    let mark = c.mark_at-last.result in
    let n = (c.loop-number.number + 1) * 128 in
    let i = c.loop-number.invariant in
    let before : n < length units =
    omega (arith, c.needed_mark_count-number-end.ensures.before_last c.loop-number.number c.loop-number-test.true) in
    let kept = IsKept-mark_at bytes units mark n c.mark_at-last.ensures.mark c.mark_at-last.ensures.last before in
    let all = AreKept-push bytes units c.loop-number.marks.items mark c.loop-number.number i.counted i.kept kept in
    record {
      counted = omega (arith, ap length c.push_reserved.ensures.items, ap length c.reserve.ensures.items, length-append {A = UnitMark});
      kept = rw c.push_reserved.ensures.items (rw c.reserve.ensures.items all);
      is_mark = c.mark_at-last.ensures.mark;
      before = kept.at_most;
    }

pub returns : goal.returns
returns g c =
    record {
      kept = c.loop-number.invariant.kept;
      all = λ free not_ascii n h. let enough = c.needed_mark_count-number-end.ensures.all not_ascii n h in omega arith;
    }
