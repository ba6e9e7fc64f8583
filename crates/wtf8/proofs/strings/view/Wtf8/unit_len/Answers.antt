use Rattle.wtf8.proofs.Common.{◌∙◌, sym, ap, arith, length}
use Rattle.wtf8.proofs.lemmas.strings.Positions.{sum_utf16_len-bytes}
use Rattle.wtf8.proofs.lemmas.codec.Scalars.{view_units-ascii}
use Rattle.wtf8.proofs.strings.view.Wtf8.unit_len.Goals as goal

pub returns-in-4-to-7 : goal.returns-in-4-to-7
returns-in-4-to-7 c = c.len-in-4-to-7.ensures.bytes
    ∙ ap length (sym (view_units-ascii c.args.self.now (c.is_ascii_overlapping.ensures c.if-is_ascii_overlapping.true)))

pub returns-in-8-to-15 : goal.returns-in-8-to-15
returns-in-8-to-15 c = c.len-in-8-to-15.ensures.bytes
    ∙ ap length (sym (view_units-ascii c.args.self.now (c.is_ascii_overlapping-then-this-lt16.ensures c.if-is_ascii_overlapping-2.true)))

pub returns-in_default : goal.returns-in_default
returns-in_default c = grind (arith, sum_utf16_len-bytes, c.count_units.ensures)

pub count_units-requires : goal.count_units-requires
count_units-requires c = grind (arith, sum_utf16_len-bytes, c.len.ensures.at_least_units)
