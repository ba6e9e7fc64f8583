use Rattle.std.proofs.Common.{◌≡◌, ◌≤◌, ◌<◌, ◌++◌, length, take, drop}
use Rattle.wtf8.specs.View.{view_units}
use Rattle.unit_text.specs.private.Search.{pattern_units}
use Rattle.unit_text.proofs.SearchLemmas.{NoneBelow}
use Rattle.unit_text.proofs.search.first_by_parts.Given as goal

-- from index `begin` on the units are the first `matched` of `front` and then the units of `rest`; none is found before
abbrev pub invariant-loop-matched : goal.invariant-loop-matched
invariant-loop-matched g l = record {
  block : length l.block ≡ g.row.N;
  shorter : l.matched < length l.front;
  within : l.begin ≤ length (view_units l.view);
  left : take l.matched l.front ++ view_units l.rest ≡ drop l.begin (view_units l.view);
  none : NoneBelow (view_units l.view) (pattern_units l.pattern) l.begin;
}

abbrev pub decreases-loop-matched : goal.decreases-loop-matched
decreases-loop-matched g l = length l.rest.bytes.now
