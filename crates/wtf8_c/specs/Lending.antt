-- What a string lends to a call.
use base.Fml.{Fml}
use denote.Ref.{MutBor}
use Rattle.std.specs.Borrow.{Lends}
use Rattle.wtf8.specs.UnitString.{UnitString}
use Rattle.wtf8_c.specs.Ownership.{Held}
use Rattle.wtf8_c.specs.declared.handle.Wtf8String.{Wtf8String}
use Rattle.wtf8_c.specs.contracts.handle.Wtf8String.{the_row}

-- The string with this buffer, in the same struct.
abbrev pub with_buffer : Wtf8String → UnitString → Wtf8String
with_buffer s b = record s { buf = b }

-- The string ends with the buffer that the call leaves.
abbrev pub LendsBuffer : MutBor Wtf8String → MutBor UnitString → Fml
LendsBuffer s r = Lends the_row Held s r (with_buffer s.now)
