use Rattle.wtf8.proofs.Common.{◌∙◌, ap, units, well_formed_of}
use Rattle.wtf8.proofs.strings.view.Wtf8.slice_from_mark.Goals as goal

pub skip_bytes-requires : goal.skip_bytes-requires
skip_bytes-requires c = record { within = c.requires.position_within; well_formed = well_formed_of c.requires.after }

pub returns-clause-units : goal.returns-clause-units
returns-clause-units c = ap units (c.skip_bytes.ensures.points (well_formed_of c.requires.after)) ∙ c.requires.after.reads.same_units
