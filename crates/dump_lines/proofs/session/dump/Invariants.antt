use Rattle.std.proofs.Common.{◌≡◌, ℕ, List, ◌++◌, length}
use Rattle.dump_lines.specs.Dump.{HoldsOutputs}
use Rattle.dump_lines.specs.Lines.{lines}
use Rattle.dump_lines.proofs.session.dump.Given as goal

-- `out` is the output for the lines so far
abbrev pub invariant-loop-rest : goal.invariant-loop-rest
invariant-loop-rest g l = (front : List (List ℕ)) × (lines l.input ≡ front ++ lines l.rest) × HoldsOutputs front l.out.items

abbrev pub decreases-loop-rest : goal.decreases-loop-rest
decreases-loop-rest g l = length (lines l.rest)
