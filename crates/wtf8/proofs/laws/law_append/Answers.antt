use Rattle.wtf8.proofs.lemmas.strings.PositionLaws.{front_and_back}
use Rattle.wtf8.proofs.laws.law_append.Goals as goal

pub returns-clause-whole : goal.returns-clause-whole
returns-clause-whole c = front_and_back
