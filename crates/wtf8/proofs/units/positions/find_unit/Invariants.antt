use Rattle.wtf8.proofs.Common.{◌≡◌, ◌≤◌, take, sum_utf16_len}
use Rattle.wtf8.proofs.units.positions.find_unit.Given as goal

-- `units` is the number of units that begin before `position`, at most `unit`
abbrev pub invariant-loop-position : goal.invariant-loop-position
invariant-loop-position l = (l.units ≡ sum_utf16_len (take l.position l.bytes)) × (l.units ≤ l.unit)
