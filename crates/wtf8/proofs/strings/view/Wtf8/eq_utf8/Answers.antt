use Rattle.wtf8.proofs.Common.{arith, bytes_decides}
use Rattle.wtf8.proofs.lemmas.comparing.TextEquality.{bytes_of_text, text_of_bytes}
use Rattle.wtf8.proofs.strings.view.Wtf8.eq_utf8.Goals as goal

pub returns-then-not-eq : goal.returns-then-not-eq
returns-then-not-eq c = grind (arith, bytes_decides, bytes_of_text)

pub returns : goal.returns
returns c = grind (arith, bytes_decides, text_of_bytes, bytes_of_text)
