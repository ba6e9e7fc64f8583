use Rattle.wtf8.proofs.Common.{◌≤◌, take, All, Run, IsNoTruncation, LeavesReserved}
use Rattle.wtf8.proofs.lemmas.strings.ExtendedForms.{Found}
use Rattle.wtf8.proofs.buffers.buf.Wtf8Buf.apply_all.Given as goal

-- the calls so far ran; capacity that they reserved is there up to a truncation; without truncations it has not shrunk
abbrev pub invariant-loop-done : goal.invariant-loop-done
invariant-loop-done g l = record {
  ran : Run l.fn.self.units (take l.done l.calls) l.self.units l.refused;
  counted : l.refused ≤ l.done;
  found : Found l.fn.self.units (take l.done l.calls) l.self.units l.fn.self.capacity l.self.capacity;
  reserved : LeavesReserved l.fn.self.units (take l.done l.calls) l.self.capacity;
  no_smaller : All IsNoTruncation l.calls → l.fn.self.capacity ≤ l.self.capacity;
}
