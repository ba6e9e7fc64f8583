-- What a string owns may go to another thread.
use base.Fraction.{full_share}
use base.Shift.{Keyless}
use denote.RawPtr.{Ptr, block_ptr, null_ptr}
use denote.Struct.Owning.{fields}
use denote.Param.Send.{IsSend, AllSend, part_keyless, owning_send, sendable}
use Rattle.std.proofs.Crossing as heap
use Rattle.wtf8_c.specs.Ownership.{Held, holds_buffer}
use Rattle.wtf8_c.specs.contracts.handle.Wtf8String.{the_row, the_type}

held : IsSend Held
held = search (sendable, heap.crosses) depth 30

holds : (p : Ptr) (s : Held.Denot) → Keyless (holds_buffer p s)
holds (block_ptr b o) s = part_keyless Held held full_share s b o
holds null_ptr s = tt

pub send : IsSend the_row
send =
    let all : AllSend (fields the_type) = search sendable in
    owning_send the_type all (λ d. holds d.at d.buf) (λ k d w. tt)
