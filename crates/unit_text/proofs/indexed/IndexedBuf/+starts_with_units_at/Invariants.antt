use Rattle.std.proofs.Common.{length}
use Rattle.unit_text.proofs.indexed.IndexedBuf.+starts_with_units_at.Given as goal

abbrev pub decreases-starts_with_units_at : goal.decreases-starts_with_units_at
decreases-starts_with_units_at g l = length l.units.now
