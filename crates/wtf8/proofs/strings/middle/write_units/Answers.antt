use Rattle.wtf8.proofs.Common.{◌≡◌, ◌+◌, ◌-◌, ◌≤◌, ◌++◌, ap, arith, length, length-take-le, length-drop, drop, take, take_rest, rules, subst, IsForm, List, ℕ}
use borrow.Rule.Slice.PartMut.{put_mid}
use Rattle.wtf8.specs.private.Cuts.{WritesForm}
use Rattle.wtf8.proofs.lemmas.strings.Editing.{placed, room_for_piece, writes_more, writes_none, written}
use Rattle.wtf8.proofs.lemmas.strings.PushedUnits.{are_units}
use Rattle.wtf8.proofs.strings.middle.write_units.Goals.{After-encode_front-front}
use Rattle.wtf8.proofs.strings.middle.write_units.Goals as goal

pub loop-read-init : goal.loop-read-init
loop-read-init c = writes_none c.args.out.now c.args.at c.args.v.now

-- the encoded part fits
part : (c : After-encode_front-front) → length (take c.encode_front-front.result.bytes c.encode_front-front.new.out) ≡ c.encode_front-front.result.bytes
part c = length-take-le c.encode_front-front.result.bytes c.encode_front-front.new.out c.encode_front-front.ensures.within.1

-- with the form of the units after it, the part is the form of the units that are left
joins : (c : After-encode_front-front) → (w : List ℕ)
    → IsForm w (drop c.encode_front-front.result.units (drop c.loop-read.read c.args.v.now))
    → IsForm (take c.encode_front-front.result.bytes c.encode_front-front.new.out ++ w) (drop c.loop-read.read c.args.v.now)
joins c = subst (λ l. (w : List ℕ) → IsForm w (drop c.encode_front-front.result.units l)
    → IsForm (take c.encode_front-front.result.bytes c.encode_front-front.new.out ++ w) l) (take_rest c.args.v.now c.loop-read.read)
    c.encode_front-front.ensures.rest

room : (c : After-encode_front-front) → c.loop-read.to + c.encode_front-front.result.bytes ≤ length c.args.out.now
room c = omega (
  arith,
  part c,
  room_for_piece (are_units c.args.v.now c.type_inv.v) c.loop-read.invariant c.requires (take c.encode_front-front.result.bytes c.encode_front-front.new.out) c.encode_front-front.result.units (joins c),
)

within : (c : After-encode_front-front) → c.loop-read.to + c.encode_front-front.result.bytes ≤ length c.loop-read.out
within c = omega (arith, room c, c.loop-read.auto.out)

pub overflow_add-to : goal.overflow_add-to
overflow_add-to c = let h = within (goal.at.overflow_add-to c).After-encode_front-front in search rules

pub slice_bounds-copy_from_slice-end : goal.slice_bounds-copy_from_slice-end
slice_bounds-copy_from_slice-end c = let h = within (goal.at.slice_bounds-copy_from_slice-end c).After-encode_front-front in search rules

pub loop-read-preserved : goal.loop-read-preserved
loop-read-preserved c =
    let here = (goal.at.loop-read-preserved c).After-encode_front-front in
    let now = c.loop-read.out in
    let to = c.loop-read.to in
    let n = c.encode_front-front.result.bytes in
    let piece = take n c.encode_front-front.new.out in
    let size = part here in
    let here_written = placed now c.copy_from_slice.new.self piece to n c.copy_from_slice.ensures.after size (within here) in
    subst (λ k. WritesForm c.args.out.now c.args.at c.args.v.now (c.loop-read.read + c.encode_front-front.result.units)
    (put_mid to (to + n - to) now c.copy_from_slice.new.self) (to + k)) size
    (writes_more (are_units c.args.v.now c.type_inv.v) c.loop-read.invariant c.requires piece c.encode_front-front.result.units
    (joins here)
    (omega (arith, ap length (take_rest c.args.v.now c.loop-read.read), c.encode_front-front.ensures.within.0, length-drop c.loop-read.read c.args.v.now, c.loop-read.invariant.within)) here_written)

pub returns : goal.returns
returns c = written c.loop-read.invariant (omega (arith, c.loop-read-test.false))
