use Rattle.std.proofs.KnownBytes.{Consumes-trans}
use Rattle.wtf8_uses.proofs.reading.read_utf16.Goals as goal

pub returns-in_default-clause-beginning : goal.returns-in_default-clause-beginning
returns-in_default-clause-beginning g c = (_, Consumes-trans _ _ _ _ _ c.loop.invariant c.in-Ok.ensures.bytes.0)
