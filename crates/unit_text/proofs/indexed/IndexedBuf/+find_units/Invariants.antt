use Rattle.std.proofs.Common.{◌-◌, length}
use Rattle.unit_text.proofs.indexed.IndexedBuf.+find_units.Given as goal

abbrev pub decreases-find_units : goal.decreases-find_units
decreases-find_units g l = length l.self.now.units - l.from
