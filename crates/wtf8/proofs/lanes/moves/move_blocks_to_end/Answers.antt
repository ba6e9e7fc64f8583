use Rattle.wtf8.proofs.Common.{◌≡◌, ◌+◌, ◌-◌, ◌≤◌, ◌∙◌, ◌++◌, ap, arith, length, length-drop, length-take-le, drop, take, drop-drop, drop_all, take_all}
use Rattle.std.proofs.lemmas.Simd.{put_chunk_is, length-chunk}
use Rattle.wtf8.proofs.lemmas.lanes.Moves.{MovedUp, moved_up, paste_is}
use Rattle.wtf8.proofs.lanes.moves.move_blocks_to_end.Goals.{After-copy_within}
use Rattle.wtf8.proofs.lanes.moves.move_blocks_to_end.Goals as goal

pub loop-at-init : goal.loop-at-init
loop-at-init c = grind (arith, take_all, drop_all, length-take-le)

pub loop-at-preserved : goal.loop-at-preserved
loop-at-preserved c =
    let i = c.loop-at.invariant in
    let at = c.loop-at.at - 64 in
    let now = c.loop-at.bytes in
    let enough : 64 ≤ c.loop-at.at = omega (arith, c.loop-at-test.true) in
    let long : at + 64 ≤ length now = omega (arith, i.1, i.2.len, enough) in
    let size : length (take 64 (drop at now)) ≡ 64 = length-chunk at 64 now long in (
      omega (arith, c.loop-at-test.true),
      omega (arith, i.1, enough),
      moved_up at 64 i.2 i.1 (omega (arith, enough))
          (put_chunk_is (at + c.args.by) now (take 64 (drop at now)) (omega (arith, size, i.1, i.2.len, enough))
          ∙ ap (λ b. take (at + c.args.by) now ++ (take 64 (drop at now) ++ b))
          (ap (λ k. drop k (drop (at + c.args.by) now)) size ∙ drop-drop 64 (at + c.args.by) now)),
    )

-- after the first bytes are moved too
moved : (c : After-copy_within) → MovedUp c.args.bytes.now c.args.from c.args.by c.copy_within.new.self
moved c =
    let i = c.loop-at.invariant in
    let now = c.loop-at.bytes in
    let n = c.loop-at.at - c.args.from in
    moved_up c.args.from n i.2 i.1 (omega (arith, i.0))
    (c.copy_within.ensures.after ∙ paste_is now (c.args.from + c.args.by) (drop c.args.from now) n
    (omega (arith, i.0, i.1, i.2.len)) (omega (arith, length-drop c.args.from now, i.0, i.1, i.2.len)))

pub returns-clause-front : goal.returns-clause-front
returns-clause-front c = (moved (goal.at.returns-clause-front c).After-copy_within).front

pub returns-clause-back : goal.returns-clause-back
returns-clause-back c = (moved (goal.at.returns-clause-back c).After-copy_within).back
