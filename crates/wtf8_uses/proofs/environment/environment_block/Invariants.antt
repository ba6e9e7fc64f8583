use Rattle.std.proofs.Common.{◌≡◌, take}
use Rattle.std.specs.List.{flat_map}
use Rattle.wtf8_uses.specs.Environment.{variable_units}
use Rattle.wtf8_uses.proofs.environment.environment_block.Given as goal

-- the units so far are the units of the variables so far
abbrev pub invariant-loop-variable : goal.invariant-loop-variable
invariant-loop-variable g l = l.units.items ≡ flat_map variable_units (take l.variable-index l.variables)
