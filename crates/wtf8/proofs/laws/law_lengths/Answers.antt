use Rattle.wtf8.proofs.lemmas.codec.Encoding.{length-encoding_bounds}
use Rattle.wtf8.proofs.lemmas.codec.Readings.{lists_have_lengths}
use Rattle.wtf8.proofs.laws.law_lengths.Goals as goal

pub returns : goal.returns
returns c = record { encoding = length-encoding_bounds; lists = lists_have_lengths }
