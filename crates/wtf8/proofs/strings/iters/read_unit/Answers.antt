use Rattle.wtf8.proofs.Common.{◌≡◌, ℕ, ◌<◌, ◌≤◌, List, length, get_or, drop, arith, sym, subst, length-drop, inl, inr, IsWellFormed}
use Rattle.wtf8.proofs.Common.{BeginsWithPoint, after_held_trail}
use Rattle.wtf8.proofs.lemmas.units.UnitCuts.{held_trail-two_bytes, none_held_at, steps_one, steps_lead, steps_trail}
use Rattle.wtf8.proofs.lemmas.codec.Readings.{first_of, IsWellFormed-equal_bytes}
use Rattle.wtf8.proofs.strings.iters.read_unit.Goals as goal

-- bytes that begin with C0 or more begin with a code point
begins_with_point : {w : List ℕ} → (v : List ℕ) (at : ℕ) → IsWellFormed (after_held_trail (drop at v)) → w ≡ drop at v → at < length v
    → 0xC0 ≤ get_or w 0 0 → BeginsWithPoint w
begins_with_point v at h same long high =
    let n = none_held_at v at same (record { start = inr high }) in
    subst BeginsWithPoint (sym same) (first_of (IsWellFormed-equal_bytes h (sym n.1)) (omega (arith, length-drop at v))).0

pub returns-then-first-lt128 : goal.returns-then-first-lt128
returns-then-first-lt128 c h =
    let low = c.if-first-lt128.true in
    steps_one c.args.bytes.now c.args.position.now h c.from.result 1 c.split_at.ensures.back c.requires.inside
    (record { start = inl low }) (omega (arith, c.from.ensures, low))
    (λ b. let f = b.by_lead in (omega (arith, c.from.ensures), omega arith))

pub read_two-requires-clause-front : goal.read_two-requires-clause-front
read_two-requires-clause-front c =
    begins_with_point c.args.bytes.now c.args.position.now c.requires.after c.split_at.ensures.back c.requires.inside c.if-first-ge192.true

pub returns-then-first-lt224 : goal.returns-then-first-lt224
returns-then-first-lt224 c h = steps_one c.args.bytes.now c.args.position.now h c.read_two.result 2 c.split_at.ensures.back
    c.requires.inside (record { start = inr c.if-first-ge192.true }) c.read_two.ensures.one_unit c.read_two.ensures.read

pub read_three-unit-requires-clause-front : goal.read_three-unit-requires-clause-front
read_three-unit-requires-clause-front c =
    begins_with_point c.args.bytes.now c.args.position.now c.requires.after c.split_at.ensures.back c.requires.inside c.if-first-ge192.true

pub returns-then-first-lt240 : goal.returns-then-first-lt240
returns-then-first-lt240 c h = steps_one c.args.bytes.now c.args.position.now h c.read_three-unit.result 3 c.split_at.ensures.back
    c.requires.inside (record { start = inr c.if-first-ge192.true }) c.read_three-unit.ensures.one_unit c.read_three-unit.ensures.read

pub read_lead-lead-requires-clause-front : goal.read_lead-lead-requires-clause-front
read_lead-lead-requires-clause-front c =
    begins_with_point c.args.bytes.now c.args.position.now c.requires.after c.split_at.ensures.back c.requires.inside c.if-first-ge192.true

pub returns-then-first-ge192 : goal.returns-then-first-ge192
returns-then-first-ge192 c h = steps_lead c.args.bytes.now c.args.position.now h c.read_lead-lead.result c.split_at.ensures.back
    c.requires.inside (omega (arith, c.if-first-lt240.false)) c.read_lead-lead.ensures

pub read_trail-trail-requires : goal.read_trail-trail-requires
read_trail-trail-requires c = grind (arith, held_trail-two_bytes)

pub returns : goal.returns
returns c h = steps_trail c.args.bytes.now c.args.position.now h c.read_trail-trail.result c.split_at.ensures.back
    (omega (arith, c.if-first-lt128.false)) (omega (arith, c.if-first-ge192.false)) c.read_trail-trail.ensures
