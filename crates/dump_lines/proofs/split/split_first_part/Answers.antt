use Rattle.std.proofs.Common.{arith}
use Rattle.std.proofs.lemmas.List.{take_rest}
use Rattle.dump_lines.proofs.Splitting.{slice_split-at_separator, slice_split-no_separator}
use Rattle.dump_lines.proofs.split.split_first_part.Goals as goal

pub returns-then-bytes-at-clause-parts : goal.returns-then-bytes-at-clause-parts
returns-then-bytes-at-clause-parts c =
    rw take_rest (slice_split-at_separator _ _ _ c.loop-at.invariant.none c.loop-at-test.true c.if-bytes-at.true)

pub returns-clause-parts : goal.returns-clause-parts
returns-clause-parts c = slice_split-no_separator _ _ _ c.loop-at.invariant.none (omega arith)
