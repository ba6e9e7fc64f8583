use Rattle.wtf8.proofs.Common.{None, Some}
use Rattle.wtf8.proofs.lemmas.lanes.SurrogateLanes.{first_surrogate_in_last}
use Rattle.wtf8.proofs.lanes.search.surrogate_in_short.Goals as goal

pub returns-in_err-lane : goal.returns-in_err-lane
returns-in_err-lane c = rw c.from_residual.ensures
    (first_surrogate_in_last c.args.bytes.now c.args.from c.requires.some c.requires.few c.after_byte-firsts.result
    c.padded-seconds.result _ c.padded-seconds.ensures c.after_byte-firsts.ensures None c.in_err-lane.ensures)

pub returns : goal.returns
returns c = first_surrogate_in_last c.args.bytes.now c.args.from c.requires.some c.requires.few c.after_byte-firsts.result
    c.padded-seconds.result _ c.padded-seconds.ensures c.after_byte-firsts.ensures (Some c.in_ok-lane.lane) c.in_ok-lane.ensures
