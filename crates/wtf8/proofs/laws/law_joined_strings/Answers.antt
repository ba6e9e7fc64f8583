use Rattle.wtf8.proofs.lemmas.strings.StringLaws.{strings_joined, strings_paired}
use Rattle.wtf8.proofs.laws.law_joined_strings.Goals as goal

pub returns : goal.returns
returns c = record { joined = strings_joined; paired = strings_paired }
