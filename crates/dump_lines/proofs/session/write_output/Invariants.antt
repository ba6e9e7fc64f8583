use Rattle.std.proofs.Common.{length, take, ◌-◌, ◌≤◌}
use Rattle.std.specs.Io.KnownBytes.{Appends}
use Rattle.dump_lines.proofs.session.write_output.Given as goal

-- the first `written` bytes were written
abbrev pub invariant-loop-written : goal.invariant-loop-written
invariant-loop-written g l = record {
  within : l.written ≤ length l.out;
  beginning : Appends (g.W.Write.contents l.fn.writer) (g.W.Write.contents l.writer) (take l.written l.out);
}

abbrev pub decreases-loop-written : goal.decreases-loop-written
decreases-loop-written g l = length l.out - l.written
