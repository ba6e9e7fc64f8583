use Rattle.wtf8.proofs.Common.{None, Some, arith}
use Rattle.wtf8.proofs.lemmas.lanes.SurrogateLanes.{first_surrogate_at_offset}
use Rattle.wtf8.proofs.lanes.search.surrogate_in_block.Goals as goal

pub overflow_add-result : goal.overflow_add-result
overflow_add-result c = grind (arith, first_surrogate_at_offset)

pub returns-in_err-lane : goal.returns-in_err-lane
returns-in_err-lane c =
    rw c.from_residual.ensures (first_surrogate_at_offset c.args.bytes.now c.args.at c.requires None c.in_err-lane.ensures)

pub returns : goal.returns
returns c = first_surrogate_at_offset c.args.bytes.now c.args.at c.requires (Some c.in_ok-lane.lane) c.in_ok-lane.ensures
