use Rattle.wtf8.proofs.Common.{◌≡◌, ◌+◌, ◌-◌, ◌≤◌, ◌∙◌, ◌++◌, ap, subst, arith, length, length-drop, drop, take, drop-drop, append-nil, take_all}
use Rattle.std.proofs.lemmas.Simd.{put_chunk_is, length-chunk}
use Rattle.wtf8.proofs.lemmas.lanes.Moves.{MovedDown, moved_down, paste_is}
use Rattle.wtf8.proofs.lanes.moves.move_blocks_down.Goals.{After-copy_within}
use Rattle.wtf8.proofs.lanes.moves.move_blocks_down.Goals as goal

pub loop-bytes-init : goal.loop-bytes-init
loop-bytes-init c = grind (arith, append-nil)

pub loop-bytes-preserved : goal.loop-bytes-preserved
loop-bytes-preserved c =
    let i = c.loop-bytes.invariant in
    let at = c.loop-bytes.at in
    let to = at - c.args.by in
    let now = c.loop-bytes.bytes in
    let long : at + 64 ≤ length now = omega (arith, i.1, i.2.len, c.loop-bytes-test.true) in
    let size : length (take 64 (drop at now)) ≡ 64 = length-chunk at 64 now long in (
      omega (arith, i.0),
      omega (arith, i.2.len, long),
      moved_down at 64 i.2 c.requires.order i.0 (omega (arith, i.2.len, long))
          (put_chunk_is to now (take 64 (drop at now)) (omega (arith, size, long))
          ∙ ap (λ b. take to now ++ (take 64 (drop at now) ++ b))
          (ap (λ k. drop k (drop to now)) size ∙ drop-drop 64 to now)),
    )

-- after the last bytes are moved too
moved : (c : After-copy_within) → MovedDown c.args.bytes.now c.args.from (length c.args.bytes.now) c.args.by c.copy_within.new.self
moved c =
    let i = c.loop-bytes.invariant in
    let now = c.loop-bytes.bytes in
    let at = c.loop-bytes.at in
    let n = length now - at in
    subst (λ k. MovedDown c.args.bytes.now c.args.from k c.args.by c.copy_within.new.self) (omega (arith, i.1, i.2.len))
    (moved_down at n i.2 c.requires.order i.0 (omega (arith, i.1, i.2.len))
    (c.copy_within.ensures.after ∙ paste_is now (at - c.args.by) (drop at now) n (omega (arith, i.1, i.2.len))
    (omega (arith, length-drop at now))))

pub returns-clause-items : goal.returns-clause-items
returns-clause-items c =
    let m = moved (goal.at.returns-clause-items c).After-copy_within in
    m.front ∙ ap (λ b. take (c.args.from - c.args.by) c.args.bytes.now ++ b)
    (take_all (length c.args.bytes.now - c.args.from) (drop c.args.from c.args.bytes.now) (omega (arith, length-drop c.args.from c.args.bytes.now)))
