use Rattle.wtf8.proofs.Common.{◌≡◌, ◌++◌, ◌≤◌, take, numbers, units}
use Rattle.wtf8.proofs.buffers.buf.Wtf8Buf.extend_from_points.Given as goal

-- the code points so far are appended, and the capacity has not shrunk
abbrev pub invariant-loop-code_point : goal.invariant-loop-code_point
invariant-loop-code_point g l =
    (l.self.units ≡ l.fn.self.units ++ units (numbers (take l.code_point-index l.points))) × (l.fn.self.capacity ≤ l.self.capacity)
