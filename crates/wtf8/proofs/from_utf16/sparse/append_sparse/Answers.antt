use Rattle.wtf8.proofs.Common.{◌≡◌, ◌+◌, ◌-◌, ◌<◌, ◌≤◌, List, ℕ, arith, length, length-chunk, take, drop, refl, subst, take_at, AreAscii, IsReadTo}
use Rattle.wtf8.proofs.lemmas.lanes.AsciiFronts.{ascii_from}
use Rattle.wtf8.proofs.lemmas.from_utf16.Decoding.{IsReadTo-low}
use Rattle.wtf8.proofs.lemmas.from_utf16.Transcode.{begins_after}
use Rattle.wtf8.proofs.from_utf16.sparse.append_sparse.Goals.{After-append_two_or_three_bytes, In-Some}
use Rattle.wtf8.proofs.from_utf16.sparse.append_sparse.Goals as goal

-- a unit is encoded, and the bytes before it are as they were
unit_read : (g : _) (c : After-append_two_or_three_bytes g) (front : List ℕ)
    → IsReadTo c.args.bytes.now.items front c.args.v.now c.args.from.at c.args.from.is_utf8
    → IsReadTo c.append_two_or_three_bytes.new.bytes.items front c.args.v.now (c.loop-count.at + 1) c.args.from.is_utf8
unit_read g c front read =
    let before = c.loop-count.invariant in
    rw c.append_two_or_three_bytes.ensures.items
    (IsReadTo-low (before.read front read) (omega (arith, before.within, c.requires.within)) before.two_or_three_bytes.1)

unit_begins : (g : _) (c : After-append_two_or_three_bytes g)
    → take (length c.args.bytes.now.items) c.append_two_or_three_bytes.new.bytes.items ≡ c.args.bytes.now.items
unit_begins g c = begins_after _ c.loop-count.invariant.begins (rw c.append_two_or_three_bytes.ensures.items (take_at _ _ _ refl))

-- the units before the next one that is not are ASCII
ascii : (g : _) (c : In-Some g) → (c.loop-count.at + 1 + c.in-Some.count < c.args.first + 32)
    × AreAscii (take c.in-Some.count (drop (c.loop-count.at + 1) c.args.v.now))
ascii g c =
    let least : c.args.first ≤ c.loop-count.at + 1 = omega (arith, c.requires.order, c.loop-count.invariant.order) in
    let own = c.in-Some.ensures.some _ (length-chunk c.args.first 32 c.args.v.now (omega (arith, c.requires.within))) c.requires.mask in
    (omega (arith, own.0, least), ascii_from c.args.v.now c.args.first _ _ least (omega (arith, own.0, least)) own.1)

pub append_ascii-requires-clause-ascii : goal.append_ascii-requires-clause-ascii
append_ascii-requires-clause-ascii g c =
    let least : c.args.first ≤ c.loop-count.at + 1 = omega (arith, c.requires.order, c.loop-count.invariant.order) in
    let own = c.in_default.ensures.none _ (length-chunk c.args.first 32 c.args.v.now (omega (arith, c.requires.within))) c.requires.mask in
    let count : 32 - (c.loop-count.at + 1 - c.args.first) ≡ c.args.first + 32 - (c.loop-count.at + 1) = omega (arith, least) in
    subst (λ n. AreAscii (take n (drop (c.loop-count.at + 1) c.args.v.now))) count
    (ascii_from c.args.v.now c.args.first _ _ least (omega (arith, least, c.loop-count.invariant.within)) own)

pub returns-in_default-clause-read : goal.returns-in_default-clause-read
returns-in_default-clause-read g c front read =
    let end : c.loop-count.at + 1 + (c.args.first + 32 - (c.loop-count.at + 1)) ≡ c.args.first + 32 = omega (arith, c.loop-count.invariant.within) in
    subst (λ n. IsReadTo c.append_ascii.new.bytes.items front c.args.v.now n c.args.from.is_utf8) end
    (c.append_ascii.ensures.read c.args.from.is_utf8 front
    (unit_read g (goal.at.returns-in_default-clause-read g c).After-append_two_or_three_bytes front read))

pub returns-in_default-clause-begins : goal.returns-in_default-clause-begins
returns-in_default-clause-begins g c = begins_after _ (unit_begins g (goal.at.returns-in_default-clause-begins g c).After-append_two_or_three_bytes)
    c.append_ascii.ensures.begins

pub append_ascii-requires-in-loop-count-clause-few : goal.append_ascii-requires-in-loop-count-clause-few
append_ascii-requires-in-loop-count-clause-few g c =
    omega (arith, (ascii g (goal.at.append_ascii-requires-in-loop-count-clause-few g c).In-Some).0)

pub append_ascii-requires-in-loop-count-clause-ascii : goal.append_ascii-requires-in-loop-count-clause-ascii
append_ascii-requires-in-loop-count-clause-ascii g c = (ascii g (goal.at.append_ascii-requires-in-loop-count-clause-ascii g c).In-Some).1

pub offset_bounds-v-at-in-loop-count : goal.offset_bounds-v-at-in-loop-count
offset_bounds-v-at-in-loop-count g c =
    omega (arith, (ascii g (goal.at.offset_bounds-v-at-in-loop-count g c).In-Some).0, c.requires.within)

pub bounds-v-at-in-loop-count : goal.bounds-v-at-in-loop-count
bounds-v-at-in-loop-count g c = omega (arith, (ascii g (goal.at.bounds-v-at-in-loop-count g c).In-Some).0, c.requires.within)

pub returns-then-not-is_two_or_three_bytes-clause-order : goal.returns-then-not-is_two_or_three_bytes-clause-order
returns-then-not-is_two_or_three_bytes-clause-order g c =
    omega (arith, (ascii g (goal.at.returns-then-not-is_two_or_three_bytes-clause-order g c).In-Some).0)

pub returns-then-not-is_two_or_three_bytes-clause-read : goal.returns-then-not-is_two_or_three_bytes-clause-read
returns-then-not-is_two_or_three_bytes-clause-read g c front read = c.append_ascii-in-loop-count.ensures.read c.args.from.is_utf8 front
    (unit_read g (goal.at.returns-then-not-is_two_or_three_bytes-clause-read g c).After-append_two_or_three_bytes front read)

pub returns-then-not-is_two_or_three_bytes-clause-begins : goal.returns-then-not-is_two_or_three_bytes-clause-begins
returns-then-not-is_two_or_three_bytes-clause-begins g c = begins_after _
    (unit_begins g (goal.at.returns-then-not-is_two_or_three_bytes-clause-begins g c).After-append_two_or_three_bytes) c.append_ascii-in-loop-count.ensures.begins

pub loop-count-preserved : goal.loop-count-preserved
loop-count-preserved g c =
    let before = c.loop-count.invariant in
    let added = c.append_two_or_three_bytes.ensures in
    let run = c.append_ascii-in-loop-count.ensures in
    let bound = (ascii g (goal.at.loop-count-preserved g c).In-Some).0 in
    record {
      order = omega (arith, before.order);
      within = bound;
      two_or_three_bytes = c.if-not-is_two_or_three_bytes.ensures.0 refl;
      read = λ front read. run.read c.args.from.is_utf8 front (unit_read g (goal.at.loop-count-preserved g c).After-append_two_or_three_bytes front read);
      begins = begins_after _ (unit_begins g (goal.at.loop-count-preserved g c).After-append_two_or_three_bytes) run.begins;
      room = omega (arith, before.room, added.most, added.capacity, run.len, run.capacity, bound);
      capacity = omega (arith, before.capacity, added.capacity, run.capacity);
    }
