use Rattle.wtf8.proofs.Common.{ap, arith, length, [], ◌∷◌, unit_of_two}
use Rattle.wtf8.specs.private.EncodedBytes.{map_run}
use Rattle.wtf8.proofs.lemmas.units.Blocks.{begins_with_points, DecodesRun-two_bytes}
use Rattle.wtf8.proofs.units.blocks.TwoBytesEncodedLength163221.read.Goals as goal

pub returns-then-all_have_prefix : goal.returns-then-all_have_prefix
returns-then-all_have_prefix c =
    let read = c.read_sixteen_twos in
    let long = ap length read.ensures.units in
    begins_with_points 2 1 16 (λ w. unit_of_two w ∷ []) (map_run 2 unit_of_two) DecodesRun-two_bytes c.args.bytes.now read.result.0 read.result.1
    long (λ j few. (omega (arith, few), omega (arith, few, long))) c.requires read.ensures.firsts read.ensures.units
    (c.all_have_prefix.ensures c.if-all_have_prefix.true)
