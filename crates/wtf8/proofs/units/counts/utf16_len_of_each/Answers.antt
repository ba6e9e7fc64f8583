use Rattle.wtf8.proofs.lemmas.lanes.UnitCounts.{ascii_or_lead_lanes, four_byte_lead_lanes, lanes_fit, unit_count_lanes-utf16_len}
use Rattle.wtf8.proofs.units.counts.utf16_len_of_each.Goals as goal

pub overflow_add-result : goal.overflow_add-result
overflow_add-result g c = lanes_fit g.row.N (ascii_or_lead_lanes g.row.N c.args.bytes) (four_byte_lead_lanes g.row.N c.args.bytes)

pub returns : goal.returns
returns g c = unit_count_lanes-utf16_len g.row.N c.args.bytes c.fits-bytes.0
