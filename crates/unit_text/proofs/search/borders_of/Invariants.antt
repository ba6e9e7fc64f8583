use Rattle.std.proofs.Common.{◌≡◌, length, min}
use Rattle.unit_text.specs.private.Borders.{AreBorders}
use Rattle.unit_text.proofs.search.borders_of.Given as goal

-- the entries before `len` are borders
abbrev pub invariant-loop-len : goal.invariant-loop-len
invariant-loop-len g l = record {
  len : length l.borders ≡ g.row.N;
  known : AreBorders l.units l.borders (min l.len (length l.units));
}
