use Rattle.std.proofs.Common.{arith}
use Rattle.wtf8.specs.View.{view_form}
use Rattle.wtf8_c.proofs.Latin1Units.{ascii_by_length, length_of_ascii}
use Rattle.wtf8_c.proofs.asking.has_one_byte_each.Goals as goal

pub returns : goal.returns
returns c = (
  λ is. ascii_by_length (view_form c.args.text) (grind (arith, is, c.len.ensures.bytes, c.requires)),
  λ all. grind (arith, length_of_ascii (view_form c.args.text) all, c.len.ensures.bytes, c.requires),
)
