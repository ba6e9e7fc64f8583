-- What a call leaves as it is.
use Rattle.std.specs.Prelude.{◌≡◌}
use Rattle.wtf8_c.specs.declared.handle.Wtf8String.{Wtf8String}

-- The string is the same, and in the same struct.
abbrev pub IsKept : Wtf8String → Wtf8String → Type 0
IsKept old new = (new.buf ≡ old.buf) × (new.at ≡ old.at)
