use Rattle.wtf8.proofs.lemmas.from_utf16.Kernel.{scalar_flag_lanes-map}
use Rattle.wtf8.proofs.from_utf16.kernel.scalar_flags.Goals as goal

pub returns : goal.returns
returns c = scalar_flag_lanes-map c.args.units c.fits-units.0 c.fits-units.1
