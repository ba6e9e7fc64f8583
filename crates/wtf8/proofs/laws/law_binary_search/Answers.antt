use Rattle.wtf8.proofs.lemmas.laws.ComparisonLaws.{absent_units}
use Rattle.wtf8.proofs.laws.law_binary_search.Goals as goal

pub returns-clause-absent : goal.returns-clause-absent
returns-clause-absent g c = absent_units c.args.table.now c.args.string.now
