use Rattle.std.proofs.Common.{◌<◌, refl, arith}
use Rattle.wtf8.specs.View.{view_form}
use Rattle.wtf8.proofs.lemmas.strings.PositionLaws.{none_is_beyond}
use Rattle.wtf8_c.proofs.Walks.{ends_at}
use Rattle.wtf8_c.proofs.walking.code_point_before.Goals as goal

pub boundary_before-begin-requires : goal.boundary_before-begin-requires
boundary_before-begin-requires c = omega (arith, none_is_beyond _ _ _ (view_form c.args.text) c.requires)

pub returns-in-Some-clause-some : goal.returns-in-Some-clause-some
returns-in-Some-clause-some c =
    let begins : c.boundary_before-begin.result < c.args.position =
    omega (arith, c.if-position-eq0.false, c.boundary_before-begin.ensures.before) in
    let before = ends_at c.in-Some.ensures.some c.requires begins (λ k b l. c.boundary_before-begin.ensures.last k b (omega (arith, l))) in
    before.between

pub returns-in-Some-clause-len : goal.returns-in-Some-clause-len
returns-in-Some-clause-len c =
    let begins : c.boundary_before-begin.result < c.args.position =
    omega (arith, c.if-position-eq0.false, c.boundary_before-begin.ensures.before) in
    let before = ends_at c.in-Some.ensures.some c.requires begins (λ k b l. c.boundary_before-begin.ensures.last k b (omega (arith, l))) in
    before.len

pub returns-in-None-clause-none : goal.returns-in-None-clause-none
returns-in-None-clause-none c = (
  λ n. absurd (omega (
    arith,
    c.if-position-eq0.false,
    c.boundary_before-begin.ensures.before,
    c.in-None.ensures.none refl,
    none_is_beyond _ _ _ (view_form c.args.text) c.requires,
  )),
  λ e. absurd (c.if-position-eq0.false e),
)
