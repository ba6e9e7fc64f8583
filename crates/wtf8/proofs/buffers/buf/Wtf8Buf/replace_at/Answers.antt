use Rattle.wtf8.proofs.Common.{view_form, view_points, view_units}
use Rattle.wtf8.proofs.lemmas.strings.Concatenation.{units_read}
use Rattle.wtf8.proofs.buffers.buf.Wtf8Buf.replace_at.Goals as goal

pub replace_middle-requires-clause-units : goal.replace_middle-requires-clause-units
replace_middle-requires-clause-units g c = units_read (view_points c.args.text) (view_units c.args.text) (view_form c.args.text).reads
