use Rattle.wtf8.proofs.Common.{arith, well_formed_of}
use Rattle.wtf8.proofs.lemmas.codec.Readings.{same_points}
use Rattle.wtf8.proofs.formatting.debug_text.Wtf8BufDebug.fmt.Goals as goal

pub returns : goal.returns
returns g c = grind (arith, same_points, well_formed_of, c.as_wtf8.ensures.bytes, c.fmt.ensures.writes, c.fmt.ensures.styled)
