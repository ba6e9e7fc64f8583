use Rattle.wtf8.proofs.Common.{ℕ, ◌≡◌, ◌-◌, ◌∙◌, ◌++◌, ap, arith, length, length-drop, length-append, length-take-le, drop, take, take_all}
use Rattle.std.proofs.lemmas.Simd.{put_chunk_is}
use Rattle.wtf8.proofs.lemmas.lanes.Moves.{first_stored}
use Rattle.wtf8.proofs.lanes.moves.move_down.Goals as goal

pub returns-clause-items : goal.returns-clause-items
returns-clause-items c =
    let w = c.args.bytes.now in
    let from = c.args.from in
    let by = c.args.by in
    let begin = c.aligned_at_most.result in
    let q = c.move_blocks_down-2.new.bytes in
    let z = drop (length w - begin) (drop begin w) in
    let now = take begin w ++ (q ++ z) in
    let long = c.if-bytes-from-lt-BLOCK.false in
    let near = c.aligned_at_most.ensures in
    let order = c.requires.order in
    let all = take_all (length w - begin) (drop begin w) (omega (arith, length-drop begin w)) in
    let size : length q ≡ length w - begin = c.move_blocks_down-2.ensures.len ∙ (ap length all ∙ length-drop begin w) in
    let first_len : length (take 64 (drop from w)) ≡ 64 = length-take-le 64 (drop from w) (omega (arith, length-drop from w, long)) in
    first_stored w q (take (length w - begin) (drop begin w)) z _ from by begin all size order (omega (arith, near.near))
    (omega (arith, near.within)) (omega (arith, long)) c.move_blocks_down-2.ensures.items
    (put_chunk_is (from - by) now (take 64 (drop from w)) (omega (arith, length-append {A = ℕ}, length-take-le {A = ℕ})))
