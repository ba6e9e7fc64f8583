use Rattle.wtf8.proofs.Common.{◌≡◌, ◌-◌, ◌∙◌, ◌++◌, ap, arith, length, length-drop, length-append, length-take-le, drop, take, take-take}
use Rattle.std.proofs.lemmas.Simd.{put_chunk_is}
use Rattle.wtf8.proofs.lemmas.lanes.Moves.{front_stays, back_moves}
use Rattle.wtf8.proofs.lanes.moves.move_to_end.Goals.{After-move_blocks_to_end-2}
use Rattle.wtf8.proofs.lanes.moves.move_to_end.Goals as goal

-- the length of the part that ends at a multiple
end_len : (c : After-move_blocks_to_end-2) → length (take c.aligned_at_most.result c.args.bytes.now) ≡ c.aligned_at_most.result
end_len c = length-take-le c.aligned_at_most.result c.args.bytes.now c.aligned_at_most.ensures.within

pub returns-clause-front : goal.returns-clause-front
returns-clause-front c =
    let here = (goal.at.returns-clause-front c).After-move_blocks_to_end-2 in
    let w = c.args.bytes.now in
    let end = c.aligned_at_most.result in
    let now = c.move_blocks_to_end-2.new.bytes ++ drop end w in
    let size = c.move_blocks_to_end-2.ensures.len ∙ end_len here in
    let long = c.if-len-by-lt-BLOCK.false in
    let last = take 64 (drop (length w - c.args.by - 64) w) in
    let last_len : length last ≡ 64 = length-take-le 64 (drop (length w - c.args.by - 64) w) (omega (arith, length-drop (length w - c.args.by - 64) w, c.requires, long)) in
    front_stays w c.move_blocks_to_end-2.new.bytes _ c.args.from c.args.by end size c.aligned_at_most.ensures.within
    c.aligned_at_most.ensures.near (omega (arith, c.requires, long))
    (put_chunk_is (length w - 64) now last (omega (arith, last_len, length-append c.move_blocks_to_end-2.new.bytes (drop end w), length-drop end w, size, c.aligned_at_most.ensures.within, long)))
    c.move_blocks_to_end-2.ensures.front

pub returns-clause-back : goal.returns-clause-back
returns-clause-back c =
    let here = (goal.at.returns-clause-back c).After-move_blocks_to_end-2 in
    let w = c.args.bytes.now in
    let end = c.aligned_at_most.result in
    let by = c.args.by in
    let now = c.move_blocks_to_end-2.new.bytes ++ drop end w in
    let size = c.move_blocks_to_end-2.ensures.len ∙ end_len here in
    let long = c.if-len-by-lt-BLOCK.false in
    let last = take 64 (drop (length w - by - 64) w) in
    let last_len : length last ≡ 64 = length-take-le 64 (drop (length w - by - 64) w) (omega (arith, length-drop (length w - by - 64) w, c.requires, long)) in
    back_moves w c.move_blocks_to_end-2.new.bytes _ c.args.from by end size c.aligned_at_most.ensures.within
    c.aligned_at_most.ensures.near (omega (arith, c.requires, long))
    (put_chunk_is (length w - 64) now last (omega (arith, last_len, length-append c.move_blocks_to_end-2.new.bytes (drop end w), length-drop end w, size, c.aligned_at_most.ensures.within, long)))
    (c.move_blocks_to_end-2.ensures.back ∙ (ap (λ k. drop c.args.from (take (k - by) (take end w))) (end_len here)
    ∙ ap (drop c.args.from) (take-take (end - by) end w (omega arith))))
