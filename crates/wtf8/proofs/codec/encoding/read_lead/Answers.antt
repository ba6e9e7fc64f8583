-- The lead byte is at least F0, so the code point is supplementary.
use Rattle.wtf8.proofs.Common.{arith}
use Rattle.wtf8.proofs.lemmas.codec.Encoding.{encoding_cases}
use Rattle.wtf8.proofs.codec.encoding.read_lead.Goals as goal

pub returns : goal.returns
returns c b = grind (arith, encoding_cases, c.requires.least)
