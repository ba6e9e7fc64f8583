use Rattle.wtf8.proofs.Common.{[], IsForm, false≢true, refl, subst, take, true}
use Rattle.wtf8.proofs.lemmas.codec.Readings.{same_form}
use Rattle.wtf8.proofs.lemmas.from_utf16.Transcode.{IsKnownForm-nil}
use Rattle.wtf8.proofs.from_utf16.on_stack.encode.Goals as goal

pub returns-in_err-bytes-clause-empty : goal.returns-in_err-bytes-clause-empty
returns-in_err-bytes-clause-empty g c none =
    let end = c.write_all-len in
    let part = take end.result.0 end.new.out in
    let form = end.ensures.form.form in
    absurd (false≢true (c.in_err-bytes.ensures.empty
    (same_form part [] [] (subst (IsForm part) none form) (IsKnownForm-nil {w = []} true refl).form)))

pub returns-clause-form : goal.returns-clause-form
returns-clause-form g c = rw c.in_ok-bytes.ensures.items c.write_all-len.ensures.form
