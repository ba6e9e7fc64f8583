use Rattle.std.proofs.Common.{length}
use Rattle.dump_lines.specs.Parts.{parts_left}
use Rattle.dump_lines.proofs.Parsing.{AreParsed}
use Rattle.dump_lines.proofs.line.parse_calls.Given as goal

-- `calls` are the calls of the words parsed so far
abbrev pub invariant-loop-rest : goal.invariant-loop-rest
invariant-loop-rest g l = AreParsed l.line (parts_left 32 l.rest) l.calls.items

abbrev pub decreases-loop-rest : goal.decreases-loop-rest
decreases-loop-rest g l = length (parts_left 32 l.rest)
