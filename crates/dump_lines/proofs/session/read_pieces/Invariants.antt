use Rattle.std.proofs.Common.{◌-◌, ◌^◌, vec_len}
use Rattle.std.specs.Io.KnownBytes.{Consumes}
use Rattle.dump_lines.proofs.session.read_pieces.Given as goal

-- `input` is what was read so far
abbrev pub invariant-loop-count : goal.invariant-loop-count
invariant-loop-count g l = Consumes (g.R.Read.remaining l.fn.reader) (g.R.Read.remaining l.reader) l.input.items

abbrev pub decreases-loop-count : goal.decreases-loop-count
decreases-loop-count g l = 2 ^ 64 - vec_len l.input
