use Rattle.std.proofs.Common.{◌-◌, ◌<◌, ◌≤◌, ◌++◌, length, take, drop}
use Rattle.wtf8.specs.View.{view_units}
use Rattle.unit_text.specs.private.Search.{pattern_units}
use Rattle.unit_text.proofs.PartLemmas.{IsReached}
use Rattle.unit_text.proofs.search.end_in_part.Given as goal

-- the units before `index` end with the first `reached` of `front`, before which nothing is found
abbrev pub invariant-loop-index : goal.invariant-loop-index
invariant-loop-index l = record {
  within : l.index ≤ length l.part;
  shorter : l.reached < length l.front;
  reached : IsReached (take l.matched l.front ++ take l.index l.part) (drop l.index l.part ++ view_units l.back) l.front (pattern_units l.tail) l.reached;
}

abbrev pub decreases-loop-index : goal.decreases-loop-index
decreases-loop-index l = length l.part - l.index
