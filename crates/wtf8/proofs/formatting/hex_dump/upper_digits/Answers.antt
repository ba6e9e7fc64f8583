use Rattle.wtf8.proofs.Common.{refl, arith, w8, SwzOk-from_below}
use Rattle.wtf8.proofs.lemmas.formatting.HexDigits.{swz_l-digit_table}
use Rattle.wtf8.proofs.formatting.hex_dump.upper_digits.Goals as goal

pub swizzle : goal.swizzle
swizzle c = SwzOk-from_below w8 16 1 16 0 c.args.values refl (omega arith) c.requires

pub returns : goal.returns
returns c = swz_l-digit_table 0 c.args.values (omega arith) c.requires
