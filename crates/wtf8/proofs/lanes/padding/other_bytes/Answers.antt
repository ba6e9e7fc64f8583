use Rattle.wtf8.proofs.Common.{◌∙◌}
use Rattle.wtf8.proofs.lemmas.lanes.Padding.{others}
use Rattle.wtf8.proofs.lanes.padding.other_bytes.Goals as goal

pub returns : goal.returns
returns g c = c.without_first.ensures ∙ (rw c.first_bytes-last.ensures (others g.row.N c.args.bytes.now c.requires.lanes c.requires.all.0 c.requires.all.1))
