use Rattle.wtf8.specs.View.{view_units}
use Rattle.wtf8_c.proofs.Latin1Units.{ascii_ends}
use Rattle.wtf8_c.proofs.latin1_out.latin1_len.Goals as goal

pub returns-then-has_one_byte_each : goal.returns-then-has_one_byte_each
returns-then-has_one_byte_each c =
    ascii_ends (view_units c.args.text) c.args.count (c.has_one_byte_each.ensures.0 c.if-has_one_byte_each.true) c.requires
