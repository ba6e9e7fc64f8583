use Rattle.wtf8.proofs.Common.{sym, subst, rules, true≢false, view_form, view_units}
use Rattle.wtf8.specs.SurrogatePosition.{IsNextSurrogate}
use Rattle.wtf8.proofs.lemmas.codec.Encoding.{BeginsWithPoint-equal_bytes}
use Rattle.wtf8.proofs.lemmas.strings.SurrogatePositions.{found_surrogate, text_if_none, no_text_if_some}
use Rattle.wtf8.proofs.strings.view.Wtf8.next_surrogate.Goals as goal

pub returns-in_err-before-clause-none : goal.returns-in_err-before-clause-none
returns-in_err-before-clause-none c =
    (λ _. text_if_none c.slice_from-rest.ensures.units (view_form c.slice_from-rest.result) c.in_err-before.ensures, λ _. search rules)

pub read-requires-clause-front : goal.read-requires-clause-front
read-requires-clause-front c =
    let f = found_surrogate c.slice_from-rest.ensures.units (view_form c.slice_from-rest.result) c.in_ok-before.before c.in_ok-before.ensures in
    BeginsWithPoint-equal_bytes f.point c.split_at.ensures.back

pub returns-clause-some : goal.returns-clause-some
returns-clause-some c =
    let f = found_surrogate c.slice_from-rest.ensures.units (view_form c.slice_from-rest.result) c.in_ok-before.before c.in_ok-before.ensures in
    let same = c.read.ensures (BeginsWithPoint-equal_bytes f.point c.split_at.ensures.back) in
    let u = view_units c.args.self.now in
    subst (λ p. IsNextSurrogate u c.args.begin c.read.result.1 p) (sym same.0)
    (subst (λ k. IsNextSurrogate u c.args.begin k f.point.point) (sym same.1) f.next)

pub returns-clause-none : goal.returns-clause-none
returns-clause-none c = (
  λ e. absurd (true≢false e),
  λ t. absurd (no_text_if_some c.slice_from-rest.ensures.units (view_form c.slice_from-rest.result) c.in_ok-before.before
      c.in_ok-before.ensures t),
)
