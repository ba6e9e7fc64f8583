use Rattle.std.proofs.Common.{length}
use Rattle.wtf8.specs.View.{view_points}
use Rattle.wtf8_uses.specs.JsonString.{BeginsWithCharacters}
use Rattle.wtf8_uses.proofs.json_reader.read_json_string.Given as goal

-- the string has the units of the characters up to `rest`
abbrev pub invariant-loop-point : goal.invariant-loop-point
invariant-loop-point g l = BeginsWithCharacters (view_points l.initial.rest) l.string.units (view_points l.rest)

-- fewer code points are left
abbrev pub decreases-loop-point : goal.decreases-loop-point
decreases-loop-point g l = length (view_points l.rest)
