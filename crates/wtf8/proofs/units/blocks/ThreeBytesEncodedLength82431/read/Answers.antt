use Rattle.wtf8.proofs.Common.{◌≡◌, [], ◌∷◌, ◌/◌, ◌*◌, ◌∙◌, ap, arith, get_or, length, refl, subst, take, w8, unit_of_three, Each1}
use Rattle.std.proofs.lemmas.Simd.{chunk-fits}
use Rattle.wtf8.specs.private.EncodedBytes.{map_run}
use Rattle.wtf8.proofs.lemmas.units.Blocks.{begins_with_points, DecodesRun-three_bytes, lead_byte}
use Rattle.wtf8.proofs.lemmas.units.FullBlocks.{AreBytes-from_fits, joined_vectors, undoubled}
use Rattle.wtf8.proofs.units.blocks.ThreeBytesEncodedLength82431.read.Goals as goal

pub returns-then-all_have_prefix : goal.returns-then-all_have_prefix
returns-then-all_have_prefix c =
    let w = c.args.bytes.now in
    let read = c.read_eight_threes in
    let same = joined_vectors w in
    let leads = undoubled 8 (take 24 w) (AreBytes-from_fits (take 24 w) (chunk-fits w8 0 24 w c.type_inv.bytes))
    (subst (Each1 (λ b. b / 4096 ≡ 14)) (read.ensures.firsts ∙ ap (map_run 3 (λ w. 257 * get_or w 0 0) 8) same)
    (c.all_have_prefix.ensures c.if-all_have_prefix.true)) in
    let long = ap length read.ensures.units in
    begins_with_points 3 1 8 (λ w. unit_of_three w ∷ []) (map_run 3 unit_of_three) DecodesRun-three_bytes w (map_run 3 lead_byte 8 (take 24 w))
    read.result.1 long (λ j few. (omega (arith, few), omega (arith, few, long))) c.requires refl
    (read.ensures.units ∙ ap (map_run 3 unit_of_three 8) same) leads
