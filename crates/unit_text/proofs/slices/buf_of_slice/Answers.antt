use Rattle.std.proofs.Common.{rules}
use Rattle.unit_text.proofs.slices.buf_of_slice.Goals as goal

pub returns-clause-ok : goal.returns-clause-ok
returns-clause-ok c = search rules
