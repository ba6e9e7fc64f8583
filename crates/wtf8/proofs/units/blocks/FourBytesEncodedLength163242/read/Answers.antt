use Rattle.wtf8.proofs.lemmas.units.Blocks.{begins_with_points, DecodesRun-four_bytes}
use Rattle.wtf8.specs.private.EncodedBytes.{lead_of_four, trail_of_four, pairs_of_fours}
use Rattle.wtf8.proofs.Common.{ap, arith, length, [], ◌∷◌}
use Rattle.wtf8.proofs.units.blocks.FourBytesEncodedLength163242.read.Goals as goal

pub returns-then-all_have_prefix : goal.returns-then-all_have_prefix
returns-then-all_have_prefix c =
    let read = c.read_eight_fours in
    let long = ap length read.ensures.units in
    begins_with_points 4 2 8 (λ w. lead_of_four w ∷ trail_of_four w ∷ []) pairs_of_fours DecodesRun-four_bytes c.args.bytes.now read.result.0
    read.result.1 long (λ j few. (omega (arith, few), omega (arith, few, long))) c.requires read.ensures.firsts read.ensures.units
    (c.all_have_prefix.ensures c.if-all_have_prefix.true)
