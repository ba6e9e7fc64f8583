use Rattle.wtf8.proofs.lemmas.strings.Removals.{removal_fits}
use Rattle.unit_text.proofs.indexed.IndexedBuf.remove_units.Goals as goal

pub returns-clause-succeeds : goal.returns-clause-succeeds
returns-clause-succeeds g c = c.replace_units.ensures.room (removal_fits c.args.self.now c.args.begin c.args.end c.requires.order)
