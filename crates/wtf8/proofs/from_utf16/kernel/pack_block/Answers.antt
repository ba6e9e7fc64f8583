use Rattle.wtf8.proofs.Common.{◌≡◌, ◌/◌, ◌%◌, arith, ap, ◌∙◌, length, take, drop, get_or, length-drop, length-take}
use Rattle.wtf8.specs.private.PackedUnits.{tagged_block}
use Rattle.wtf8.proofs.lemmas.from_utf16.Kernel.{first_lanes, second_lanes, third_lanes, fourth_lanes, block-table_index}
use Rattle.wtf8.proofs.lemmas.from_utf16.Kernel.{length-tagged_block, quarter_indexes, packed_units-quarters}
use Rattle.wtf8.proofs.from_utf16.kernel.pack_block.Goals as goal

pub returns-clause-bytes : goal.returns-clause-bytes
returns-clause-bytes c =
    let u = tagged_block c.args.units in
    let v = drop 4 u in
    let w = drop 4 v in
    let long = length-tagged_block c.args.units c.fits-units.0 in
    let lv : length v ≡ 12 = omega (arith, long, length-drop 4 u) in
    let lw : length w ≡ 8 = omega (arith, lv, length-drop 4 v) in
    let are = c.requires.from in
    let index = block-table_index u long are in
    let rows = quarter_indexes u long in
    packed_units-quarters (take c.args.len c.args.scratch.now) u long
    (c.pack_four-len.ensures.bytes 0 (take 4 u) (omega (arith, long, length-take 4 u)) (first_lanes u long are)
    (ap (λ n. n % 256) index ∙ rows.0))
    (c.pack_four-len-2.ensures.bytes (get_or u 3 0) (take 4 v) (omega (arith, lv, length-take 4 v)) (second_lanes u long are)
    (ap (λ n. n / 256 % 256) index ∙ rows.1))
    (c.pack_four-len-3.ensures.bytes (get_or v 3 0) (take 4 w) (omega (arith, lw, length-take 4 w)) (third_lanes u long are)
    (ap (λ n. n / 65536 % 256) index ∙ rows.2))
    (c.pack_four.ensures.bytes (get_or w 3 0) (drop 4 w) (omega (arith, lw, length-drop 4 w)) (fourth_lanes u long are)
    (ap (λ n. n / 16777216 % 256) index ∙ rows.3))
