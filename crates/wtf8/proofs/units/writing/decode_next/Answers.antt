use Rattle.wtf8.proofs.Common.{◌≡◌, ℕ, List, [], ◌∷◌, ◌∙◌, ◌+◌, ◌≤◌, ap, arith, length, length-drop, subst, sym, take, take-take, AreAscii, BeginsWithPoint}
use Rattle.wtf8.proofs.Common.{BeginsWithUnits, IsWellFormed, ◌/◌, ◌%◌, FirstPointIs, length-append, units, units_of}
use Rattle.wtf8.specs.declared.units.writing.Undecoded.{Undecoded}
use Rattle.wtf8.specs.private.UnitsOut.{HasRoom, HasRoomFrom}
use Rattle.wtf8.proofs.lemmas.codec.Readings.{first_of, lists_have_lengths, lead_of, trail_of, units_one, units_two}
use Rattle.wtf8.proofs.lemmas.units.Blocks.{begins_with_ascii, begins_with_first}
use Rattle.wtf8.proofs.units.writing.decode_next.Goals as goal

-- a store of a block ends within the slice
block_fits : (out : List ℕ) (left : Undecoded) (least : ℕ) → HasRoomFrom out left least → least ≤ length left.view.bytes.now
    → left.at + 32 ≤ length out
block_fits out left least room long =
    let form = left.view.well_formed in
    omega (arith, room.1, long, ap length form.encoded, (lists_have_lengths form.points).units_most)

-- the first `n` bytes of a block are the next units if they are ASCII
ascii_front : (w block : List ℕ) (n : ℕ) → n ≤ 32 → 32 ≤ length w → block ≡ take 32 w → AreAscii (take n (take 32 w)) → BeginsWithUnits w (take n block) n
ascii_front w block n few long same ascii =
    let front = ap (take n) same in
    begins_with_ascii w (take n block) n (omega (arith, few, long)) (front ∙ take-take n 32 w few) (subst AreAscii (sym front) ascii)

pub write_front-requires : goal.write_front-requires
write_front-requires c =
    let w = c.args.left.view.bytes.now in
    let block = c.widen.result in
    let counted = c.ascii_run_len-count.ensures in
    let long : 32 ≤ length w = omega (arith, c.requires.least) in
    let all : c.ascii_run_len-count.result ≡ 32 = omega (arith, c.if-count-eq-POSITIONS.true) in
    let begins = subst (λ n. BeginsWithUnits w (take n block) n) all (ascii_front w block c.ascii_run_len-count.result counted.within long c.widen.ensures counted.ascii) in
    (omega arith, (omega arith, (block_fits c.args.units.now c.args.left c.args.least c.requires.room c.requires.least.1, ((omega arith, long), begins))))

pub write_front-rest-requires : goal.write_front-rest-requires
write_front-rest-requires c =
    let w = c.args.left.view.bytes.now in
    let n = c.ascii_run_len-count.result in
    let counted = c.ascii_run_len-count.ensures in
    let long : 32 ≤ length w = omega (arith, c.requires.least) in
    let begins = ascii_front w c.widen-then-count-ge-MIN_ASCII_FRONT.result n counted.within long c.widen-then-count-ge-MIN_ASCII_FRONT.ensures counted.ascii in
    (omega arith, (omega arith, (block_fits c.args.units.now c.args.left c.args.least c.requires.room c.requires.least.1, ((counted.within, omega (arith, counted.within, long)), begins))))

-- the first code point of a string of `least` bytes or more
first_point : {w : List ℕ} (h : IsWellFormed w) (least : ℕ) → (32 ≤ least) × (least ≤ length w) → BeginsWithPoint w
first_point h least long = (first_of h (omega (arith, long))).0

-- its units, for which the slice has room
first_units : (out : List ℕ) (left : Undecoded) (least : ℕ) → (32 ≤ least) × (least ≤ length left.view.bytes.now) → HasRoom out left
    → (v : List ℕ) (p n : ℕ) → n ≤ 4 → FirstPointIs left.view.bytes.now p n → units_of p ≡ v
    → (left.at + length v ≤ length out) × (n ≤ length left.view.bytes.now) × BeginsWithUnits left.view.bytes.now v n
first_units out left least long room v p n few read own =
    let begins = begins_with_first left.view.bytes.now v p n (omega (arith, long)) read own in
    let after = begins left.view.well_formed in
    (omega (arith, room, ap length after.1, length-append v (units after.0.points)), omega (arith, few, long), begins)

pub read_three-requires-clause-front : goal.read_three-requires-clause-front
read_three-requires-clause-front c = first_point c.write_front-rest.result.view.well_formed c.args.least (c.requires.least.0, c.if-bytes-least.false)

pub read_four-value-requires-clause-front : goal.read_four-value-requires-clause-front
read_four-value-requires-clause-front c = first_point c.write_front-rest.result.view.well_formed c.args.least (c.requires.least.0, c.if-bytes-least.false)

pub write_front-requires-then-bytes-lt240 : goal.write_front-requires-then-bytes-lt240
write_front-requires-then-bytes-lt240 c =
    let unit = c.read_three.result in
    let own = first_units c.write_front-rest.new.units c.write_front-rest.result c.args.least (c.requires.least.0, c.if-bytes-least.false)
    (omega (arith, c.requires.room.0, c.write_front-rest.ensures.written.same_total, c.write_front-rest.ensures.written.len)) (unit ∷ []) unit 3 (omega arith) c.read_three.ensures.read
    (units_one unit c.read_three.ensures.one_unit) in
    (omega arith, (omega arith, (own.0, ((omega arith, own.1), own.2))))

pub overflow_cast-lead : goal.overflow_cast-lead
overflow_cast-lead c =
    let first = first_point c.write_front-rest.result.view.well_formed c.args.least (c.requires.least.0, c.if-bytes-least.false) in
    omega (arith, c.read_four-value.ensures first, first.in_range)

pub write_front-requires-then-count-ge-MIN_ASCII_FRONT : goal.write_front-requires-then-count-ge-MIN_ASCII_FRONT
write_front-requires-then-count-ge-MIN_ASCII_FRONT c =
    let value = c.read_four-value.result in
    let long : (32 ≤ c.args.least) × (c.args.least ≤ length c.write_front-rest.result.view.bytes.now) = (c.requires.least.0, c.if-bytes-least.false) in
    let first = first_point c.write_front-rest.result.view.well_formed c.args.least long in
    let large : 0x10000 ≤ value = omega (arith, c.read_four-value.ensures first, (first.by_lead.four c.if-bytes-lt240.false).4) in
    let pair : (lead_of value ≡ 0xD7C0 + value / 0x400) × (trail_of value ≡ 0xDC00 + value % 0x400) = (omega (arith, large), omega (arith, large)) in
    let own = first_units c.write_front-rest.new.units c.write_front-rest.result c.args.least long
    (omega (arith, c.requires.room.0, c.write_front-rest.ensures.written.same_total, c.write_front-rest.ensures.written.len)) ((0xD7C0 + value / 0x400) ∷ (0xDC00 + value % 0x400) ∷ []) value 4 (omega arith)
    c.read_four-value.ensures (units_two value large ∙ (λ i. pair.0 i ∷ pair.1 i ∷ [])) in
    (omega arith, (omega arith, (own.0, ((omega arith, own.1), own.2))))

pub decode_positions-requires-clause-room : goal.decode_positions-requires-clause-room
decode_positions-requires-clause-room c = block_fits c.args.units.now c.args.left c.args.least c.requires.room c.requires.least.1

pub returns-then-count-eq-POSITIONS-clause-shorter : goal.returns-then-count-eq-POSITIONS-clause-shorter
returns-then-count-eq-POSITIONS-clause-shorter c =
    omega (arith, ap length c.write_front.ensures.bytes, length-drop 32 c.args.left.view.bytes.now, c.requires.least)

pub returns-then-count-eq-POSITIONS-clause-kept : goal.returns-then-count-eq-POSITIONS-clause-kept
returns-then-count-eq-POSITIONS-clause-kept c =
    omega (arith, ap length c.write_front.ensures.bytes, length-drop 32 c.args.left.view.bytes.now, c.requires.least)
