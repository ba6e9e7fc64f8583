-- What a string of C owns.
use base.Fml.{Fml}
use base.Fraction.{full_share}
use base.Stored.{Coded}
use denote.RattleType.{RattleType}
use denote.RawPtr.{Ptr, lies_at, room_at}
use Rattle.std.specs.Coded.{coded_option}
use Rattle.std.specs.Prelude.{Option, Some, None}
use Rattle.std.specs.contracts.alloc.Global as heap
use Rattle.std.specs.contracts.impls.GlobalAllocator.TheImpl.{ghosts}
use Rattle.unit_text.specs.contracts.indexed.IndexedBuf as buf

-- The type of the buffers of strings.
abbrev pub Held : RattleType
Held = buf.the_row heap.the_row ghosts

-- A string owns the memory at its pointer, with a buffer in it.
abbrev pub holds_buffer : Ptr → Held.Denot → Fml
holds_buffer at b = lies_at Held full_share at b

-- Room for a buffer owns the memory at its pointer, with a buffer in it once that is written.
abbrev pub room_owns : Ptr → Option Held.Denot → Fml
room_owns at None = room_at Held at
room_owns at (Some b) = holds_buffer at b

-- the coding of a buffer
abbrev pub held_coded : Coded Held.Denot
held_coded = Held.coded

-- the coding of a buffer that may not be written yet
abbrev pub written_coded : Coded (Option Held.Denot)
written_coded = coded_option Held.coded
