use Rattle.wtf8.proofs.Common.{◌-◌, ◌++◌, false≢true, arith, length, length-append, length-take, take}
use Rattle.wtf8.proofs.Common.{refl, encoding, pair, units, IsReadTo, IsTrail, IsWellFormed, ◌<◌, false, slice_index}
use Rattle.std.proofs.lemmas.Result.{IfOk-weaker}
use Rattle.wtf8.proofs.lemmas.codec.Encoding.{encoding_four}
use Rattle.wtf8.proofs.lemmas.strings.ExtendedForms.{CompletedPair}
use Rattle.wtf8.proofs.lemmas.strings.PushedUnits.{begins_before, completed_pair, read_after_pair, read_start}
use Rattle.wtf8.proofs.strings.appending.append_utf16.Goals.{In-Some}
use Rattle.wtf8.proofs.strings.appending.append_utf16.Goals as goal

first : (g : _) (c : In-Some g) → (0 < length c.args.v.now) × IsTrail (slice_index c.args.v.now 0)
first g c = rw c.in-Some.is at c.requires.trail

-- the first unit completes the lead at the end
completed : (g : _) (c : In-Some g) → CompletedPair c.args.bytes.now.items c.in-Some.lead (slice_index c.args.v.now 0)
completed g c = completed_pair c.args.lead c.requires.well_formed c.in-Some.is c.requires.lead (c.requires.last c.requires.well_formed)
    (first g c).1

pub complete_pair-requires-clause-three : goal.complete_pair-requires-clause-three
complete_pair-requires-clause-three g c = (completed g (goal.at.complete_pair-requires-clause-three g c).In-Some).three

-- after the pair the units from the second on are left
read_pair : (g : _) (c : In-Some g) (h : IsWellFormed c.args.bytes.now.items)
    → IsReadTo (take (length c.args.bytes.now.items - 3) c.args.bytes.now.items
    ++ encoding (pair c.in-Some.lead (slice_index c.args.v.now 0)))
    (units h.points) c.args.v.now 1 false
read_pair g c h = read_after_pair h (first g c).0 (first g c).1 (completed g c) refl

pub returns-in_err-complete_pair-in-Some-clause-room : goal.returns-in_err-complete_pair-in-Some-clause-room
returns-in_err-complete_pair-in-Some-clause-room g c h fits =
    let read = read_pair g (goal.at.returns-in_err-complete_pair-in-Some-clause-room g c).In-Some h in
    absurd (false≢true (c.in_err-complete_pair-in-Some.ensures.room (rw c.from.ensures (fits 1 _ read.form.form))))

pub returns-in_ok-complete_pair-in-Some-clause-ok : goal.returns-in_ok-complete_pair-in-Some-clause-ok
returns-in_ok-complete_pair-in-Some-clause-ok g c h =
    let read = read_pair g (goal.at.returns-in_ok-complete_pair-in-Some-clause-ok g c).In-Some h in
    IfOk-weaker c.append_utf16.result _ _ (λ known on. on (units h.points)
    (rw (c.in_ok-complete_pair-in-Some.ensures.ok, c.from.ensures) read)) c.append_utf16.ensures.ok

pub returns-in_ok-complete_pair-in-Some-clause-before_lead : goal.returns-in_ok-complete_pair-in-Some-clause-before_lead
returns-in_ok-complete_pair-in-Some-clause-before_lead g c = grind (arith, begins_before)

pub returns-in_ok-complete_pair-in-Some-clause-longer : goal.returns-in_ok-complete_pair-in-Some-clause-longer
returns-in_ok-complete_pair-in-Some-clause-longer g c = grind (arith, completed, In-Some, encoding_four, length-take, length-append)

pub returns-in_ok-complete_pair-in-Some-clause-room : goal.returns-in_ok-complete_pair-in-Some-clause-room
returns-in_ok-complete_pair-in-Some-clause-room g c h fits =
    let read = read_pair g (goal.at.returns-in_ok-complete_pair-in-Some-clause-room g c).In-Some h in
    c.append_utf16.ensures.room (
      units h.points,
      rw (c.in_ok-complete_pair-in-Some.ensures.ok, c.from.ensures) read,
      λ n w form. omega (arith, fits n w form, c.in_ok-complete_pair-in-Some.ensures.capacity),
    )

pub returns-in-None-clause-ok : goal.returns-in-None-clause-ok
returns-in-None-clause-ok g c h = IfOk-weaker c.append_utf16-in-None.result _ _ (λ known on. on (units h.points)
    (read_start c.args.lead h c.in-None.is (c.requires.none h) (c.requires.scalar h))) c.append_utf16-in-None.ensures.ok

pub returns-in-None-clause-room : goal.returns-in-None-clause-room
returns-in-None-clause-room g c h fits = c.append_utf16-in-None.ensures.room
    (units h.points, read_start c.args.lead h c.in-None.is (c.requires.none h) (c.requires.scalar h), fits)
