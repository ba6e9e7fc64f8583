use Rattle.std.proofs.Common.{◌≡◌, [], ◌++◌, take}
use Rattle.wtf8_uses.specs.LittleEndian.{bytes_read}
use Rattle.wtf8_uses.proofs.reading.push_bytes.Given as goal

-- the held byte and the bytes so far are the bytes of the units so far and the low byte
abbrev pub invariant-loop-byte : goal.invariant-loop-byte
invariant-loop-byte g l = bytes_read [] l.fn.held ++ take l.byte-index l.bytes ≡ bytes_read l.units.items l.low
