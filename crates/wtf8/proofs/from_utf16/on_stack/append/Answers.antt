use Rattle.wtf8.proofs.Common.{ℕ, ◌++◌, false≢true, length, length-append, length-take, arith, subst, take, take_all, IsKnownForm}
use Rattle.wtf8.proofs.from_utf16.on_stack.append.Goals as goal

pub returns-in_err-extend_from_slice-clause-room : goal.returns-in_err-extend_from_slice-clause-room
returns-in_err-extend_from_slice-clause-room g c room =
    let old = c.args.bytes.now.items in
    let end = c.write_one_by_one-len in
    let part = take end.result.0 end.new.out in
    let read = end.ensures.read old room.0 room.1 in
    absurd (false≢true (c.in_err-extend_from_slice.ensures.succeeds
    (omega (arith, room.2 _ _ read.form.form, length-append {A = ℕ}, length-take {A = ℕ}))))

pub returns-clause-ok : goal.returns-clause-ok
returns-clause-ok g c front read =
    let old = c.args.bytes.now.items in
    let v = c.args.v.now in
    let end = c.write_one_by_one-len in
    let part = take end.result.0 end.new.out in
    rw c.in_ok-extend_from_slice.ensures.items (subst (λ u. IsKnownForm (old ++ part) (front ++ u) end.result.1) (take_all (length v) v (omega arith)) (end.ensures.read old front read).form)
