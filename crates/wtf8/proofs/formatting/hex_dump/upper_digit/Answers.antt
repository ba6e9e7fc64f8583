use Rattle.wtf8.proofs.Common.{arith}
use Rattle.wtf8.proofs.lemmas.formatting.HexDigits.{digit_at}
use Rattle.wtf8.proofs.formatting.hex_dump.upper_digit.Goals as goal

pub returns-clause-digit : goal.returns-clause-digit
returns-clause-digit c = grind (arith, digit_at)
