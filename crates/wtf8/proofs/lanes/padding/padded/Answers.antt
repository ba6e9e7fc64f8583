use Rattle.wtf8.proofs.Common.{◌≡◌, ◌∙◌, ◌-◌, ◌++◌, arith, length, replicate}
use Rattle.wtf8.proofs.lemmas.lanes.Padding.{joined_0, joined_1, joined_2, joined_4, joined_8, joined_16, joined_zeros}
use Rattle.wtf8.proofs.lanes.padding.padded.Goals as goal
use Rattle.wtf8.proofs.lanes.padding.padded.Goals.{in-0, in-1, in-2-to-3, in-4-to-7, in_default}

pub returns-then-bytes-ge-VECTOR : goal.returns-then-bytes-ge-VECTOR
returns-then-bytes-ge-VECTOR c = rw (c.first_bytes.ensures, c.other_bytes.ensures) (joined_16 c.args.bytes.now c.if-bytes-ge-VECTOR.true c.requires)

pub returns : goal.returns
returns c =
    let u = c.args.bytes.now in
    let own : c.match-bytes.vector ≡ u ++ replicate (16 - length u) 0 = elim c.match-bytes.branch [
      | in-0 w ↦ w.vector-is ∙ joined_0 u (omega (arith, w.in-0))
      | in-1 w ↦ w.vector-is ∙ (w.first_bytes-vector.ensures ∙ joined_1 u (omega (arith, w.in-1)))
      | in-2-to-3 w ↦ w.vector-is
          ∙ (rw (w.first_bytes-in-2-to-3.ensures, w.other_bytes-in-2-to-3.ensures) (joined_2 u (omega (arith, w.in-2-to-3)) (omega (arith, w.in-2-to-3))))
      | in-4-to-7 w ↦ w.vector-is
          ∙ (rw (w.first_bytes-in-4-to-7.ensures, w.other_bytes-in-4-to-7.ensures) (joined_4 u (omega (arith, w.in-4-to-7)) (omega (arith, w.in-4-to-7))))
      | in_default w ↦ w.vector-is
          ∙ (rw (w.first_bytes-in_default.ensures, w.other_bytes-in_default.ensures) (joined_8 u (omega (arith, w.in_default)) c.if-bytes-ge-VECTOR.false))
    ] in
    rw own (joined_zeros u c.if-bytes-ge-VECTOR.false)
