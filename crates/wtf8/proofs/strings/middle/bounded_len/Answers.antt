use Rattle.wtf8.proofs.Common.{rules}
use Rattle.wtf8.proofs.lemmas.strings.Editing.{encoded_bound}
use Rattle.wtf8.proofs.lemmas.strings.PushedUnits.{are_units}
use Rattle.wtf8.proofs.strings.middle.bounded_len.Goals as goal

pub returns-clause-bound : goal.returns-clause-bound
returns-clause-bound c = let b = encoded_bound (are_units c.args.v.now c.type_inv.v) c.encoded_len.ensures in search rules
