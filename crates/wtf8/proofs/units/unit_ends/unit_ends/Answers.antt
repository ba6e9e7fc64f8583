use Rattle.wtf8.proofs.Common.{◌∙◌, ◌<◌, List, ℕ, arith, Each1, subst}
use Rattle.wtf8.proofs.lemmas.units.UnitLanes.{excess-block, high_lanes-block, high_byte-short, low_of_any-short, high_of_any-short, below_two}
use Rattle.wtf8.specs.private.UnitEnds.{bytes_one_before, bytes_two_before}
use Rattle.wtf8.proofs.units.unit_ends.unit_ends.Goals as goal

-- without lead bytes of three or four bytes among the bytes one before, there is none of four among those two before
two_below : (u : List ℕ) → Each1 (λ b. b < 0xE0) (bytes_one_before u) → Each1 (λ b. b < 0xF0) (bytes_two_before u)
two_below u e = below_two 0 0 0 u (omega arith) e

pub returns-then-are_below-clause-low : goal.returns-then-are_below-clause-low
returns-then-are_below-clause-low c =
    let one = subst (Each1 (λ b. b < 0xE0)) c.bytes_before.ensures.one (c.are_below.ensures c.if-are_below.true) in
    c.units_of_two.ensures.low ∙ low_of_any-short 0 0 0 c.args.bytes (two_below c.args.bytes one)

pub returns-then-are_below-clause-high : goal.returns-then-are_below-clause-high
returns-then-are_below-clause-high c =
    let one = subst (Each1 (λ b. b < 0xE0)) c.bytes_before.ensures.one (c.are_below.ensures c.if-are_below.true) in
    c.units_of_two.ensures.high ∙ (high_byte-short 0 0 0 c.args.bytes (omega arith) one
    ∙ high_of_any-short 0 0 0 c.args.bytes (omega arith) (two_below c.args.bytes one))

pub returns-then-are_below-clause-ends : goal.returns-then-are_below-clause-ends
returns-then-are_below-clause-ends c =
    let one = subst (Each1 (λ b. b < 0xE0)) c.bytes_before.ensures.one (c.are_below.ensures c.if-are_below.true) in
    c.end_positions.ensures (two_below c.args.bytes one)

pub returns-then-are_below-2-clause-low : goal.returns-then-are_below-2-clause-low
returns-then-are_below-2-clause-low c =
    let two = subst (Each1 (λ b. b < 0xF0)) c.bytes_before.ensures.two (c.are_below-2.ensures c.if-are_below-2.true) in
    c.units_of_two.ensures.low ∙ low_of_any-short 0 0 0 c.args.bytes two

pub returns-then-are_below-2-clause-high : goal.returns-then-are_below-2-clause-high
returns-then-are_below-2-clause-high c =
    let two = subst (Each1 (λ b. b < 0xF0)) c.bytes_before.ensures.two (c.are_below-2.ensures c.if-are_below-2.true) in
    rw (c.bytes_before.ensures.two, c.units_of_two.ensures.high) (high_lanes-block c.args.bytes c.fits-bytes.0 c.fits-bytes.1
    ∙ high_of_any-short 0 0 0 c.args.bytes (omega arith) two)

pub returns-then-are_below-2-clause-ends : goal.returns-then-are_below-2-clause-ends
returns-then-are_below-2-clause-ends c =
    let two = subst (Each1 (λ b. b < 0xF0)) c.bytes_before.ensures.two (c.are_below-2.ensures c.if-are_below-2.true) in
    c.end_positions-then-are_below-2.ensures two

pub units_of_four-requires-clause-excess : goal.units_of_four-requires-clause-excess
units_of_four-requires-clause-excess c = rw c.bytes_before.ensures.two (excess-block c.args.bytes c.fits-bytes.0 c.fits-bytes.1)

pub units_of_four-requires-clause-high : goal.units_of_four-requires-clause-high
units_of_four-requires-clause-high c = rw (c.bytes_before.ensures.two, c.units_of_two.ensures.high) (high_lanes-block c.args.bytes
    c.fits-bytes.0 c.fits-bytes.1)
