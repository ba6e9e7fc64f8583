use Rattle.wtf8.proofs.Common.{IsUtf8-from_ascii, arith}
use Rattle.wtf8.proofs.lemmas.formatting.HexDigits.{bytes_below_256, hex_ascii}
use Rattle.wtf8.proofs.strings.view.Wtf8.hex_dump.Goals as goal

pub from_utf8_unchecked-requires : goal.from_utf8_unchecked-requires
from_utf8_unchecked-requires g c = grind (arith, bytes_below_256, IsUtf8-from_ascii, hex_ascii)
