use Rattle.std.proofs.Common.{rules}
use Rattle.wtf8_c.proofs.hashing.seeded.Goals as goal

pub returns : goal.returns
returns c = search rules
