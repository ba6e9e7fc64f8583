use Rattle.wtf8.proofs.lemmas.strings.Concatenation.{reads-glue}
use Rattle.wtf8.proofs.laws.law_concat.Goals as goal

pub returns-clause-reads : goal.returns-clause-reads
returns-clause-reads c = reads-glue
