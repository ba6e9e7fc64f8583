use Rattle.std.proofs.Common.{◌-◌, length}
use Rattle.unit_text.proofs.indexed.IndexedBuf.+find.Given as goal

abbrev pub decreases-find : goal.decreases-find
decreases-find g l = length l.self.now.units - l.from
