use Rattle.wtf8.proofs.Common.{ℕ, ◌≡◌, ◌∙◌, ◌++◌, Some, ap, sym, arith, length, length-drop, drop, slice_get, units, view_units}
use Rattle.wtf8.proofs.Common.{IsWellFormed, after_held_trail}
use Rattle.std.proofs.lemmas.Option.{slice_get_past}
use Rattle.wtf8.proofs.lemmas.codec.Readings.{lists_have_lengths, IsWellFormed-equal_bytes, same_points}
use Rattle.wtf8.proofs.lemmas.strings.Positions.{cut_by}
use Rattle.wtf8.proofs.lemmas.units.UnitCuts.{InPair, Undivided, in_pair_at_cursor, points_about_unit, undivided_at}
use Rattle.wtf8.proofs.lemmas.units.UnitCuts.{all_before, trail_in_pair, none_held}
use Rattle.wtf8.proofs.units.positions.unit_by_count.Goals.{After-find_unit-cursor}
use Rattle.wtf8.proofs.units.positions.unit_by_count.Goals as goal

pub returns-then-view-index : goal.returns-then-view-index
returns-then-view-index c =
    let h = c.args.view.well_formed in
    sym (slice_get_past (view_units c.args.view) c.args.index
    (omega (arith, (lists_have_lengths h.points).units_least, ap length h.encoded, c.if-view-index.true)))

pub returns-then-cursor-view : goal.returns-then-cursor-view
returns-then-cursor-view c =
    let h = c.args.view.well_formed in
    let cursor = c.find_unit-cursor.ensures in
    let all = all_before h c.args.index c.find_unit-cursor.result cursor c.if-cursor-view.true in
    sym (slice_get_past (view_units c.args.view) c.args.index (omega (arith, all, cursor.before.not_beyond)))

-- the cursor divides a pair
divided : (c : After-find_unit-cursor) → ¬ (c.find_unit-cursor.result.position ≡ length c.args.view.bytes.now)
    → ¬ (c.find_unit-cursor.result.units ≡ c.args.index)
    → InPair c.args.view.well_formed.points c.args.index c.find_unit-cursor.result
divided c e =
    in_pair_at_cursor (points_about_unit c.args.view.well_formed c.args.index c.find_unit-cursor.result c.find_unit-cursor.ensures)
    (omega (arith, c.find_unit-cursor.ensures.before.within, e, ap length c.args.view.well_formed.encoded))

-- the cursor is between code points
undivided : (c : After-find_unit-cursor) → c.find_unit-cursor.result.units ≡ c.args.index
    → Undivided c.args.view.well_formed.points c.args.index c.find_unit-cursor.result.position
undivided c = undivided_at c.args.view.well_formed c.args.index c.find_unit-cursor.result c.find_unit-cursor.ensures

pub split_at-requires : goal.split_at-requires
split_at-requires c =
    let d = (divided (goal.at.split_at-requires c).After-find_unit-cursor c.if-cursor-view.false c.if-cursor-index.true).divided in
    omega (arith, d.long, ap length c.args.view.well_formed.encoded)

pub read_trail-requires : goal.read_trail-requires
read_trail-requires c =
    let d = (divided (goal.at.read_trail-requires c).After-find_unit-cursor c.if-cursor-view.false c.if-cursor-index.true).divided in
    omega (arith, ap length c.args.view.well_formed.encoded, ap length c.split_at.ensures.back, length-drop {A = ℕ})

pub returns-then-cursor-index : goal.returns-then-cursor-index
returns-then-cursor-index c =
    let d = (divided (goal.at.returns-then-cursor-index c).After-find_unit-cursor c.if-cursor-view.false c.if-cursor-index.true).divided in
    ap Some (c.read_trail.ensures ∙ trail_in_pair c.args.view.well_formed d c.split_at.ensures.back) ∙ sym d.here

pub read_unit-requires-clause-after : goal.read_unit-requires-clause-after
read_unit-requires-clause-after c =
    let x = undivided (goal.at.read_unit-requires-clause-after c).After-find_unit-cursor c.if-cursor-index.false in
    let cut = cut_by c.args.view.well_formed x.front x.back c.find_unit-cursor.result.position x.joined x.front_len in
    IsWellFormed-equal_bytes cut.after (none_held cut.after).1

pub returns : goal.returns
returns c =
    let k = c.find_unit-cursor.result.position in
    let x = undivided (goal.at.returns c).After-find_unit-cursor c.if-cursor-index.false in
    let cut = cut_by c.args.view.well_formed x.front x.back k x.joined x.front_len in
    let none = none_held cut.after in
    let after : IsWellFormed (after_held_trail (drop k c.args.view.bytes.now)) = IsWellFormed-equal_bytes cut.after none.1 in
    let all = ap (λ held. held ++ units after.points) none.0 ∙ ap units (same_points after cut.after none.1) in
    ap (λ u. slice_get u 0) (sym (c.read_unit.ensures after).first ∙ all) ∙ sym x.here
