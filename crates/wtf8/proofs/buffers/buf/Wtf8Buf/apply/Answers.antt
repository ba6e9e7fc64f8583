use Rattle.wtf8.proofs.Common.{length, ap, subst, arith, false≢true, IsForm}
use Rattle.wtf8.proofs.lemmas.codec.Readings.{same_form}
use Rattle.wtf8.proofs.buffers.buf.Wtf8Buf.apply.Goals as goal

pub returns-in_err-reserve-in-Reserve-clause-found : goal.returns-in_err-reserve-in-Reserve-clause-found
returns-in_err-reserve-in-Reserve-clause-found g c v finds =
    let old = c.args.self.now in
    let f = rw c.in-Reserve.is at finds in
    let same = same_form f.fits.whole old.bytes old.units (subst (IsForm f.fits.whole) f.step.0 f.fits.form) old.form in
    absurd (false≢true (c.in_err-reserve-in-Reserve.ensures.room (omega (arith, f.fits.within, ap length same))))
