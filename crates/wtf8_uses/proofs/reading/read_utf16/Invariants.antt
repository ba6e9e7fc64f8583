use Rattle.std.specs.Io.KnownBytes.{Consumes}
use Rattle.wtf8_uses.specs.LittleEndian.{bytes_read}
use Rattle.wtf8_uses.proofs.reading.read_utf16.Given as goal

-- the bytes read are two for each unit of the string, and the low byte of the next unit if it was read
abbrev pub invariant-loop : goal.invariant-loop
invariant-loop g l = Consumes (g.R.Read.remaining l.fn.reader) (g.R.Read.remaining l.reader) (bytes_read l.string.units l.low)
