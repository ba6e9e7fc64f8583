use Rattle.wtf8.proofs.Common.{◌≤◌, AppendsPoints}
use Rattle.wtf8.proofs.buffers.buf.Wtf8Buf.extend.Given as goal

-- the items so far are appended, and the capacity has not shrunk
abbrev pub invariant-loop-code_point : goal.invariant-loop-code_point
invariant-loop-code_point g l = AppendsPoints l.fn.self l.yielded l.self × (l.fn.self.capacity ≤ l.self.capacity)
