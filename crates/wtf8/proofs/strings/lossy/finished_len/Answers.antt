use Rattle.wtf8.proofs.Common.{ℕ, ◌-◌, arith, drop, false≢true, subst, sym, take_rest, ◌∙◌}
use Rattle.wtf8.proofs.lemmas.strings.LossyTexts.{begins_last, none_begins, none_left_out}
use Rattle.wtf8.specs.Utf8.{IsUnfinished}
use Rattle.wtf8.proofs.strings.lossy.finished_len.Goals as goal

pub returns-then-is_unfinished-clause-all : goal.returns-then-is_unfinished-clause-all
returns-then-is_unfinished-clause-all c =
    let w = c.args.text.now in
    let at = c.loop-at.at - 1 in
    let within = c.loop-at.invariant.within in
    let some = c.loop-at-test.true in
    let is : IsUnfinished (drop at w) = rw take_rest at (c.is_unfinished.ensures.0 c.if-is_unfinished.true) in
    let last = λ (k : ℕ). begins_last w at k c.if-text-at-ge192.true (omega (arith, within, some))
    (λ j l m. c.loop-at.invariant.later j (omega (arith, l)) m) in
    record { within = omega (arith, within); rest = λ _. is; only = last }

pub returns-then-text-at-ge192-clause-all : goal.returns-then-text-at-ge192-clause-all
returns-then-text-at-ge192-clause-all c =
    let w = c.args.text.now in
    let at = c.loop-at.at - 1 in
    let within = c.loop-at.invariant.within in
    let some = c.loop-at-test.true in
    none_left_out w (λ k u.
    let last = begins_last w at k c.if-text-at-ge192.true (omega (arith, within, some)) (λ j l m. c.loop-at.invariant.later j (omega (arith, l)) m) u in
    let is : IsUnfinished (drop at w) = subst (λ n. IsUnfinished (drop n w)) last u in
    false≢true (sym c.if-is_unfinished.false ∙ c.is_unfinished.ensures.1 (rw take_rest is)))

pub returns-clause-all : goal.returns-clause-all
returns-clause-all c =
    let w = c.args.text.now in
    none_left_out w (λ k u. none_begins w c.loop-at.at k (omega (arith, c.loop-at-test.false, c.saturating_sub-first.ensures)) c.loop-at.invariant.later u)
