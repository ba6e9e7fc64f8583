use Rattle.std.proofs.Common.{rules}
use Rattle.unit_text.proofs.slices.write_half.Goals as goal

pub returns-in-Some-clause-end : goal.returns-in-Some-clause-end
returns-in-Some-clause-end c = search rules
