use Rattle.std.proofs.Common.{◌≡◌, length}
use Rattle.wtf8.specs.Units.{unread_units}
use Rattle.wtf8_uses.specs.Numbered.{hash_with}
use Rattle.wtf8_uses.proofs.interner.hash_of.Given as goal

-- the hash, updated with the units that are left, is the hash of all units
abbrev pub invariant-loop-unit : goal.invariant-loop-unit
invariant-loop-unit l = hash_with l.hash (unread_units l.units) ≡ hash_with 0 (unread_units l.initial.units)

-- fewer units are left
abbrev pub decreases-loop-unit : goal.decreases-loop-unit
decreases-loop-unit l = length (unread_units l.units)
