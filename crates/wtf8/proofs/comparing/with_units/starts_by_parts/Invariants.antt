use Rattle.wtf8.proofs.Common.{◌≡◌, ◌↔◌, length, take, view_units}
use Rattle.wtf8.proofs.comparing.with_units.starts_by_parts.Given as goal

-- what is left of both decides
abbrev pub invariant-loop-rest : goal.invariant-loop-rest
invariant-loop-rest g l = record {
  block : length l.block ≡ g.row.N;
  decides : (take (length l.units) (view_units l.view) ≡ l.units) ↔ (take (length l.others) (view_units l.rest) ≡ l.others);
}

abbrev pub decreases-loop-rest : goal.decreases-loop-rest
decreases-loop-rest g l = length l.rest.bytes.now
