use Rattle.wtf8.proofs.Common.{◌+◌, ◌≤◌, length, arith, cases_lt, inl, inr}
use Rattle.wtf8.proofs.lemmas.lanes.AsciiFronts.{ascii_in_block}
use Rattle.wtf8.proofs.lanes.ascii.ascii_front_len.Goals as goal

pub loop-at-preserved : goal.loop-at-preserved
loop-at-preserved c =
    let room : c.loop-at.at + 64 ≤ length c.args.bytes.now = omega (arith, c.loop-at.invariant.0, c.loop-at-test.true) in (
      room,
      λ k l. elim (cases_lt k c.loop-at.at) [
        | inl m ↦ c.loop-at.invariant.1 k m
        | inr m ↦ ascii_in_block 64 c.loop-at.at c.args.bytes.now room (c.is_ascii_block.ensures c.if-is_ascii_block.true) k m l
      ],
    )
