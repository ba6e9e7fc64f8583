use Rattle.std.proofs.Common.{◌-◌, ◌<◌, ◌≤◌, ◌++◌, length, take}
use Rattle.std.specs.Prelude.{IfSome}
use Rattle.wtf8.specs.View.{view_units}
use Rattle.unit_text.specs.Search.{FindsLastBelow}
use Rattle.unit_text.specs.private.Borders.{EndsWithFront}
use Rattle.unit_text.specs.private.Search.{pattern_units}
use Rattle.unit_text.proofs.search.last_in_block.Given as goal

-- the units before `from` end with the first `matched` of `front`, and `last` is the last index before these
abbrev pub invariant-loop-end : goal.invariant-loop-end
invariant-loop-end l = record {
  within : l.from ≤ length l.block;
  shorter : l.matched < length l.front;
  ends : EndsWithFront (take l.from l.block) l.front l.matched;
  found : FindsLastBelow (l.block ++ view_units l.back) (l.front ++ pattern_units l.tail) (l.from - l.matched) l.last;
  below : IfSome l.last (λ k. k < l.limit);
}

abbrev pub decreases-loop-end : goal.decreases-loop-end
decreases-loop-end l = length l.block - l.from
