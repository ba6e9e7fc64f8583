use Rattle.wtf8.proofs.Common.{◌≡◌, length, nat_cmp, slice_cmp, view_units}
use Rattle.wtf8.proofs.comparing.with_units.cmp_by_parts.Given as goal

-- what is left of both decides
abbrev pub invariant-loop-rest : goal.invariant-loop-rest
invariant-loop-rest g l = record {
  block : length l.block ≡ g.row.N;
  decides : slice_cmp nat_cmp (view_units l.view) l.units ≡ slice_cmp nat_cmp (view_units l.rest) l.others;
}

abbrev pub decreases-loop-rest : goal.decreases-loop-rest
decreases-loop-rest g l = length l.rest.bytes.now
