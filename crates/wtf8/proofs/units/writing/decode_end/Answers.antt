use Rattle.wtf8.proofs.Common.{◌≡◌, ◌∙◌, ℕ, List, ◌++◌, ◌+◌, ◌-◌, ◌*◌, ◌/◌, ◌%◌, ◌≤◌, ap, arith, drop, drop-drop, length, subst, sym, take, take_all}
use Rattle.wtf8.proofs.Common.{length-append, length-drop, units, view_units, BeginsWithUnits}
use Rattle.wtf8.specs.View.{view_form}
use Rattle.wtf8.specs.private.EncodedBytes.{BeginsWithPoints}
use Rattle.wtf8.proofs.lemmas.codec.Readings.{lists_have_lengths, units-append}
use Rattle.wtf8.proofs.lemmas.units.Blocks.{after_points, written_again}
use Rattle.wtf8.proofs.units.writing.decode_end.Goals.{After-slice_from-view}
use Rattle.wtf8.proofs.units.writing.decode_end.Goals as goal

-- what was written before the block, and the block's units, are what was written and the units that are left
before_block : (g : _) (c : After-slice_from-view g) (block : List ℕ)
    → BeginsWithPoints c.slice_from-view.result.bytes.now block g.row.BYTES g.row.WIDTH g.row.UNITS
    → let x = c.args.units.now in
    let at = c.args.rest.at in
    let m = g.row.UNITS * ((g.row.BYTES - c.len-decoded.result) / g.row.WIDTH) in
    let all = view_units c.slice_from-view.result in
    let left = view_units c.args.rest.view in
    (m ≤ at) × (take (at - m) x ++ all ≡ take at x ++ left) × (at - m + length all ≡ at + length left)
before_block g c block begins =
    let left = c.args.left.view in
    let rest = c.args.rest.view in
    let view = c.slice_from-view.result in
    let own = c.slice_from-view.ensures.units in
    let start = c.len-start.result - g.row.BYTES in
    let d = g.row.BYTES - c.len-decoded.result in
    let sum : length left.bytes.now - length rest.bytes.now ≡ start + d = omega (arith, c.len-start.ensures.bytes, c.len-decoded.ensures.bytes, c.requires.few) in
    let same : rest.bytes.now ≡ drop d view.bytes.now = c.requires.back ∙ (ap (λ n. drop n left.bytes.now) sum
    ∙ (sym (drop-drop d start left.bytes.now) ∙ ap (drop d) (sym c.slice_from-view.ensures.bytes))) in
    let whole : d % g.row.WIDTH ≡ 0 = omega (arith, c.if-decoded-ne0.false) in
    let after = after_points view.bytes.now block rest.bytes.now g.row.BYTES g.row.WIDTH g.row.UNITS d begins (omega arith) whole same
    view.well_formed rest.well_formed in
    let back : view_units left ≡ units own.front ++ view_units view =
    sym own.splits.reads.same_units ∙ (units-append own.front own.back ∙ ap (λ v. units own.front ++ v) own.same_units) in
    let at = c.args.rest.at in
    subst (λ n. (n ≤ at) × (take (at - n) c.args.units.now ++ view_units view ≡ take at c.args.units.now ++ view_units rest)
    × (at - n + length (view_units view) ≡ at + length (view_units rest))) after.0
    (written_again c.args.units.now c.requires.decoded.0 (units own.front) (take (g.row.UNITS * (d / g.row.WIDTH)) block) (view_units rest) (view_units left) (view_units view)
    at (omega (arith, c.requires.room)) c.requires.decoded.1 back after.1)

pub overflow_sub-at : goal.overflow_sub-at
overflow_sub-at g c = (before_block g (goal.at.overflow_sub-at g c).After-slice_from-view c.in-Some.block c.in-Some.ensures.2).0

pub write_front-requires : goal.write_front-requires
write_front-requires g c =
    let here = (goal.at.write_front-requires g c).After-slice_from-view in
    let view = c.slice_from-view.result in
    let block = c.in-Some.block in
    let long : length block ≡ g.row.N = c.in-Some.ensures.0 in
    let begins : BeginsWithUnits view.bytes.now block g.row.BYTES = c.in-Some.ensures.1 in
    let first = begins view.well_formed in
    let all = take_all g.row.N block (omega (arith, long)) in
    let within : g.row.BYTES ≤ length view.bytes.now =
    omega (arith, ap length c.slice_from-view.ensures.bytes, length-drop (c.len-start.result - g.row.BYTES) c.args.left.view.bytes.now, c.len-start.ensures.bytes, c.requires.few) in (
      omega (arith, c.requires.lanes),
      (
        c.requires.lanes.0,
        (
          omega (arith, (before_block g here block c.in-Some.ensures.2).2, ap length first.1, length-append block (units first.0.points), long, c.requires.room),
          ((omega arith, within), subst (λ u. BeginsWithUnits view.bytes.now u g.row.BYTES) (sym all) begins),
        ),
      ),
    )

pub returns-clause-written : goal.returns-clause-written
returns-clause-written g c =
    let here = (goal.at.returns-clause-written g c).After-slice_from-view in
    let block = c.in-Some.block in
    let written = c.write_front.ensures.written in
    let own = before_block g here block c.in-Some.ensures.2 in
    let end = view_form c.write_front.result.view in
    record {
      units = written.units ∙ own.1;
      same_total = written.same_total ∙ own.2;
      order = omega (
        arith,
        ap length (end.encoded ∙ c.write_front.ensures.bytes),
        (lists_have_lengths end.points).units_least,
        length-drop {A = ℕ},
        ap length c.slice_from-view.ensures.bytes,
      );
      len = written.len;
      later = written.later;
    }
