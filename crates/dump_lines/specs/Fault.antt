-- The exit status and the message of a fault.
use Rattle.std.specs.Prelude.{ℕ, List, codes}
use Rattle.dump_lines.specs.declared.fault.Fault.{Fault}
use Rattle.dump_lines.specs.declared.fault.Fault.TheVariants.{Read, Write, Memory}

-- The exit status: 1 if input or output failed, 2 if memory was refused.
abbrev pub status_of : Fault → ℕ
status_of Read = 1
status_of Write = 1
status_of Memory = 2

-- The message for the user.
abbrev pub text_of : Fault → List ℕ
text_of Read = codes "read failed"
text_of Write = codes "write failed"
text_of Memory = codes "out of memory"
