use Rattle.std.proofs.Common.{◌↔◌, length}
use Rattle.wtf8.specs.View.{view_units}
use Rattle.wtf8_uses.specs.FileName.{BeginsWith}
use Rattle.wtf8_uses.proofs.PartLemmas.{parts}
use Rattle.wtf8_uses.proofs.file_names.begins_with.Given as goal

-- the path begins with the front exactly if the rest does with the rest of the front
abbrev pub invariant-loop-after : goal.invariant-loop-after
invariant-loop-after l = BeginsWith (parts l.path) (parts l.front) ↔ BeginsWith (parts l.rest) (parts l.front_rest)

-- the rest gets shorter
abbrev pub decreases-loop-after : goal.decreases-loop-after
decreases-loop-after l = length (view_units l.rest)
