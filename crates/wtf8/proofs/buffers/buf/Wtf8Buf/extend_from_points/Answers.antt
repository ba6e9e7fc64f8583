use Rattle.wtf8.proofs.Common.{ℕ, rules, ◌≡◌, ◌+◌, ◌++◌, ◌∷◌, ◌<◌, ◌∙◌, length, take, drop, arith, ap, sym, append_assoc, false≢true}
use Rattle.wtf8.proofs.lemmas.codec.Readings.{units-append}
use Rattle.wtf8.proofs.Common.{number, numbers, units, units_of, map-append}
use Rattle.wtf8.proofs.lemmas.strings.Concatenation.{take-cons-drop}
use Rattle.wtf8.proofs.lemmas.strings.ExtendedForms.{beginning_of_form, extended_length}
use Rattle.wtf8.proofs.buffers.buf.Wtf8Buf.extend_from_points.Goals as goal

pub returns-in_err-reserve-clause-room : goal.returns-in_err-reserve-clause-room
returns-in_err-reserve-clause-room g c fit =
    let long = extended_length c.args.points.now c.args.self.now.bytes c.args.self.now.units fit.whole c.args.self.now.form fit.form in
    absurd (false≢true (c.in_err-reserve.ensures.room (omega (arith, fit.within))))

pub returns-in_err-push-clause-room : goal.returns-in_err-push-clause-room
returns-in_err-push-clause-room g c fit =
    let i = c.loop-code_point.code_point-index in
    let ps = c.args.points.now in
    let p = c.code_point-item.result in
    let below : i < length ps = omega arith in
    let inv = c.loop-code_point.invariant in
    let all = ap (λ d. units (numbers d)) (sym (take-cons-drop ps i p below c.code_point-item.is)) ∙ (ap units
    (map-append number (take i ps) (p ∷ drop (i + 1) ps)) ∙ units-append (numbers (take i ps)) (numbers (p ∷ drop (i + 1) ps))) in
    let rest = units (numbers (drop (i + 1) ps)) in
    let whole : c.args.self.now.units ++ units (numbers ps) ≡ c.loop-code_point.self.units ++ (units_of (number p) ++ rest) =
    rw (all, inv.0, append_assoc) in
    let next =
    beginning_of_form (c.loop-code_point.self.units ++ units_of (number p)) rest fit.whole (rw (append_assoc, ← whole) fit.form) in
    absurd (false≢true
    (c.in_err-push.ensures.room (record { whole = next.whole; form = next.form; within = omega (arith, next.within, fit.within, inv.1) })))

pub returns-in_err-push-clause-err : goal.returns-in_err-push-clause-err
returns-in_err-push-clause-err g c =
    let appended : (n : ℕ) × (c.push.new.self.units ≡ c.args.self.now.units ++ units (numbers (take n c.args.points.now))) =
    (c.loop-code_point.code_point-index, c.in_err-push.ensures.kept.units ∙ c.loop-code_point.invariant.0) in
    search (rules, appended)
