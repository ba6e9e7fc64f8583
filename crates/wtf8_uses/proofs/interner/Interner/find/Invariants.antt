use Rattle.wtf8.specs.View.{view_units}
use Rattle.wtf8_uses.proofs.Numbering.{IsReached}
use Rattle.wtf8_uses.proofs.interner.Interner.find.Given as goal

-- the string's number is below `head`, if it has one
abbrev pub invariant-loop-head : goal.invariant-loop-head
invariant-loop-head l = IsReached l.self (view_units l.string) l.head

-- `head` decreases
abbrev pub decreases-loop-head : goal.decreases-loop-head
decreases-loop-head l = l.head
