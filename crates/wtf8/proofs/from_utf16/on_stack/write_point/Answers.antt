use Rattle.wtf8.proofs.Common.{◌+◌, ◌++◌, arith, number, subst, take, true, IsReadTo}
use Rattle.std.proofs.Math.Bool.{and-true}
use Rattle.wtf8.proofs.lemmas.from_utf16.Decoding.{IsFirstRead, IsFirstRead-length, IsFirstRead-low, IsReadTo-written}
use Rattle.wtf8.proofs.from_utf16.on_stack.write_point.Goals.{After-write_encoding-end}
use Rattle.wtf8.proofs.from_utf16.on_stack.write_point.Goals as goal

-- a unit below the surrogates is read alone
low : (c : After-write_encoding-end) → IsFirstRead c.args.v.now c.args.from.at (c.args.from.at + 1) (number c.from_unit.result)
low c = IsFirstRead-low c.args.v.now c.args.from.at (number c.from_unit.result) c.requires.within
    (omega (arith, c.if-v-from-lt-FIRST_LEAD.true)) c.from_unit.ensures

pub returns-then-v-from-lt-FIRST_LEAD-clause-end : goal.returns-then-v-from-lt-FIRST_LEAD-clause-end
returns-then-v-from-lt-FIRST_LEAD-clause-end c =
    omega (arith, IsFirstRead-length (low (goal.at.returns-then-v-from-lt-FIRST_LEAD-clause-end c).After-write_encoding-end))

pub returns-then-v-from-lt-FIRST_LEAD-clause-read : goal.returns-then-v-from-lt-FIRST_LEAD-clause-read
returns-then-v-from-lt-FIRST_LEAD-clause-read c w front read =
    let own = c.write_encoding-end in
    subst (IsReadTo (w ++ take own.result own.new.out) front c.args.v.now (c.args.from.at + 1)) (and-true c.args.from.is_utf8)
    (IsReadTo-written w _ _ _ _ {scalar = true} read (omega arith) (low (goal.at.returns-then-v-from-lt-FIRST_LEAD-clause-read c).After-write_encoding-end)
    (λ _ s. omega (arith, s.0, c.if-v-from-lt-FIRST_LEAD.true, c.from_unit.ensures)) own.ensures.bytes)

pub returns-clause-end : goal.returns-clause-end
returns-clause-end c = grind (arith, IsFirstRead-length)

pub returns-clause-read : goal.returns-clause-read
returns-clause-read c w front read =
    let own = c.read_point-at.ensures in
    IsReadTo-written w _ _ _ _ read own.order
    (record { within = own.within; divides_no_pair = own.divides_no_pair; reads = own.reads }) own.scalar
    c.write_encoding-end-2.ensures.bytes
